-- Why numbers are no clauses over so many variables.
use Rattle.std.specs.Prelude.{ℕ, zero, suc, ◌+◌, Bool, true, false, List, [], ◌∷◌}
use Rattle.std.proofs.Math.Bool.{Bool-set}
use Rattle.clauses.specs.declared.solved.Refusal.{Refusal}
use Rattle.clauses.specs.declared.solved.Refusal.TheVariants.{NoClauses, Small}
use Rattle.clauses.specs.Flat.{Well, Beyond}

abbrev pub Refused : List ℕ → ℕ → Refusal → Type 0
Refused ws n NoClauses = Well false ws → ⊥
Refused ws n Small = Well false ws × Beyond ws (n + 1)

-- whether numbers are clauses is one fact, however it is shown
pub Well-prop : (b : Bool) (ws : List ℕ) → IsProp (Well b ws)
Well-prop b [] = Bool-set b false
Well-prop b (zero ∷ ws) = Well-prop false ws
Well-prop b (suc zero ∷ ws) = λ x y. absurd x
Well-prop b (suc (suc x) ∷ ws) = Well-prop true ws
