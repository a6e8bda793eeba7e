-- What a look at every given clause shows.
use Rattle.std.specs.Prelude.{◌≡◌, ℕ, ◌/◌, ◌<◌, ◌≤◌, Bool, true, ◌⊎◌, List, length, ◌≢◌, slice_index}
use Rattle.clauses.specs.declared.solved.Answer.{Answer}
use Rattle.clauses.specs.declared.solved.Answer.TheVariants.{Met, Never}
use Rattle.clauses.specs.Flat.{lit_truth, Hopeless, Model}
use Rattle.kernel.specs.Trail.{Own, Trailed}

-- a literal that is not false
abbrev pub Open : List ℕ → ℕ → Type 0
Open values x = (slice_index values (x / 2) ≡ 0) ⊎ (slice_index values (x / 2) ≡ x)

-- each clause has a literal that is not false: whoever makes all of those true is a model
abbrev pub Clear : List ℕ → List ℕ → Type 0
Clear ws values = (s : ℕ → Bool) → ((k : ℕ) → k < length ws → (slice_index ws k ≢ 0) → Open values (slice_index ws k) → lit_truth s (slice_index ws k) ≡ true) → Model s ws

-- each literal of the clauses is set
abbrev pub Full : List ℕ → List ℕ → Type 0
Full ws values = (k : ℕ) → k < length ws → 2 ≤ slice_index ws k → slice_index values (slice_index ws k / 2) ≢ 0

-- the values make every clause true
pub record Solution (ws values : List ℕ) : Type 0 where
  pub full : Full ws values
  pub clear : Clear ws values
  pub own : Own values

-- the values meet the clauses, or nothing does
abbrev pub Found : Trailed → Answer → Type 0
Found t Met = Solution t.clauses t.values
Found t Never = Hopeless t.clauses
