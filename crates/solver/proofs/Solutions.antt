-- Values that make every clause true are a model, and so are the signs that are written from them.
use Rattle.std.proofs.Common.{◌≡◌, ℕ, ◌+◌, ◌-◌, ◌*◌, ◌/◌, ◌%◌, ◌<◌, ◌≤◌, Ok, Err, false, eqb, List, length, get_or, sym, refl, ap, ◌∙◌, subst, inl, inr, arith}
use Rattle.clauses.specs.declared.solved.Answer.{Answer}
use Rattle.clauses.specs.declared.solved.Answer.TheVariants.{Met, Never}
use Rattle.clauses.specs.declared.solved.Refusal.{Refusal}
use Rattle.clauses.specs.declared.solved.Refusal.TheVariants.{NoClauses, Small}
use Rattle.clauses.specs.Clauses.{signed}
use Rattle.clauses.specs.Flat.{Model, Well, Within}
use Rattle.clauses.specs.Formula.{Refused}
use Rattle.clauses.specs.Says.{SolvedPost}
use Rattle.clauses.specs.Models.{value_sign, written_sign, gives_word}
use Rattle.clauses.proofs.Alikes.{model_alike}
use Rattle.clauses.proofs.Forms.{well_literal}
use Rattle.clauses.proofs.Values.{value_true, bytes_model}
use Rattle.clauses.proofs.Promise.{met, never, no_clauses, small_model}
use Rattle.kernel.specs.Scan.{Solution}
use Rattle.solver.specs.Solving.{Solves}

pub solution_model : (ws values : List ℕ) → Well false ws → Solution ws values → Model (value_sign values) ws
solution_model ws values well sol =
    sol.clear (value_sign values) (λ k lt some alive.
    let lit : 2 ≤ get_or ws k 0 = well_literal false ws well k lt some in
    elim alive [
      | inl free ↦ absurd (sol.full k lt lit free)
      | inr set ↦ value_true values (get_or ws k 0) lit set
    ])

-- where each variable is numbered as it is
pub plain_model : (ws map values : List ℕ) → Well false ws → ((k : ℕ) → k < length ws → 2 ≤ get_or ws k 0 → get_or map (get_or ws k 0 / 2 - 1) 0 ≡ get_or ws k 0 / 2) → Solution ws values → Model (written_sign map values) ws
plain_model ws map values well number sol =
    model_alike (value_sign values) (written_sign map values) ws ws refl
    (λ k l. (λ e. e, λ ne. (ne, λ t. sym (ap (signed (eqb (get_or ws k 0 % 2) 0)) (same k l ne)) ∙ t)))
    (solution_model ws values well sol)
  where
    same : (k : ℕ) → k < length ws → (get_or ws k 0 ≡ 0 → ⊥) → value_sign values (get_or ws k 0 / 2 - 1) ≡ written_sign map values (get_or ws k 0 / 2 - 1)
    same k l ne =
        let lit = well_literal false ws well k l ne in
        let at = number k l lit in
        ap (λ i. eqb (get_or values i 0 % 2) 0) (omega arith)

-- what the public calls promise, from what a search for a model of bytes says
module _ (ws : List ℕ) (w : ℕ) (m m' : List ℕ) (room : 32 * length ws + (8 * length m + 4096) ≤ w) where
  pub solved : (a : Answer) → Well false ws → Within ws (length m + 1) → length m' ≡ length m → Solves gives_word ws m m' a → SolvedPost ws w m m' (Ok a)
  solved Met well within long s = met ws w m m' room well within long (bytes_model ws s.map s.values m m' well s.written s.model) s.map s.values s.written
  solved Never well within long s = never ws w m m' room well within s.hopeless s.same

  pub solved_read : (a : Answer) (ws' : List ℕ) (n : ℕ) → ws' ≡ ws → n ≡ length m → Well false ws' → Within ws' (n + 1) → length m' ≡ length m → Solves gives_word ws' m m' a → SolvedPost ws w m m' (Ok a)
  solved_read a ws' n e en well within long s =
      solved a (subst (Well false) e well) (subst (λ xs. Within xs (length m + 1)) e (subst (λ k. Within ws' (k + 1)) en within)) long (subst (λ xs. Solves gives_word xs m m' a) e s)

  pub refused : (r : Refusal) → Refused ws (length m) r → m' ≡ m → SolvedPost ws w m m' (Err r)
  refused NoClauses f same = no_clauses ws w m m' room f same
  refused Small f same = small_model ws w m m' f.0 f.1 same
