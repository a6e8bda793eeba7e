-- Marks that a literal loses which every model makes true.
use Rattle.std.proofs.Common.{◌≡◌, ℕ, ◌-◌, ◌<◌, ◌≤◌, Bool, true, List, length, get_or, take, set, ◌∙◌, arith, length-set}
use Rattle.std.proofs.lemmas.List.{length-take-le, get_or-take}
use Rattle.clauses.specs.Flat.{lit_truth, Model}
use Rattle.kernel.specs.Trail.{State, NoDecision}
use Rattle.kernel.specs.Resolve.{Blamed, Counts}
use Rattle.kernel.proofs.Zeros.{zeros_free, zeros_most}
use Rattle.kernel.proofs.Trails.{holds_on, sound_less}

-- the literals before the first decision are true in every model
pub level_zero : (ws values trail kinds : List ℕ) (n first : ℕ) → State ws values trail kinds n → NoDecision (take n kinds) first → (s : ℕ → Bool) → Model s ws → (p : ℕ) → p < first → lit_truth s (get_or trail p 0) ≡ true
level_zero ws values trail kinds n first st nd s md =
    let long = st.room in
    let fits = st.trail.counted in
    let few : first ≤ n = omega (arith, nd.within, length-take-le n kinds (omega arith)) in
    holds_on ws trail kinds first 0 (sound_less ws trail kinds first n few st.sound)
    (λ p _ l z. nd.before p l (get_or-take n kinds p 0 (omega arith) ∙ z)) s md (λ q b. absurd (omega arith)) first (omega arith)

-- a variable whose value every model has needs no mark
module _ (ws values seen : List ℕ) (h marks : ℕ) (b : Blamed ws values seen) (counted : Counts seen marks) (fits : h < length values) (on : get_or seen h 0 ≡ 0 → ⊥) where
  here : h < length seen
  here = omega (arith, b.long)

  pub unmarked_left : 1 ≤ marks
  unmarked_left = omega (arith, here, zeros_free seen h here on, counted, zeros_most (set seen h 0), length-set seen h 0)

  pub unmarked_counted : Counts (set seen h 0) (marks - 1)
  unmarked_counted =
      let left = unmarked_left in
      omega (arith, zeros_free seen h here on, length-set seen h 0, counted)
