-- The check of a clause along hints, by reverse unit propagation.
use Rattle.std.specs.Prelude.{◌≡◌, ℕ, ◌<◌, Bool, false, List, length, slice_index}
use Rattle.clauses.specs.Flat.{lit_truth}
use Rattle.kernel.specs.Trail.{Agrees, Own}
use Rattle.kernel.specs.Arena.{Word}

-- whoever makes the first n literals false agrees with the values
pub record Denied (values lits : List ℕ) (n : ℕ) : Type 0 where
  pub words : (j : ℕ) → j < n → Word (length values) (slice_index lits j)
  pub own : Own values
  pub agrees : (s : ℕ → Bool) → ((j : ℕ) → j < n → lit_truth s (slice_index lits j) ≡ false) → Agrees s values
