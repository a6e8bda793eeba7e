-- Conflict analysis: which values alone are to blame.
use Rattle.std.specs.Prelude.{◌≡◌, ℕ, ◌+◌, ◌/◌, ◌<◌, Bool, true, List, length, ◌≢◌, slice_index, slice_index_or}
use Rattle.clauses.specs.Flat.{lit_truth, Model}
use Rattle.kernel.specs.Trail.{zeros}
use Rattle.kernel.specs.Arena.{Clause}

-- s makes each marked value true
abbrev pub Blames : (ℕ → Bool) → List ℕ → List ℕ → Type 0
Blames s values seen = (k : ℕ) → k < length values → (slice_index seen k ≢ 0) → lit_truth s (slice_index values k) ≡ true

-- no model makes each marked value true
abbrev pub Core : List ℕ → List ℕ → List ℕ → Type 0
Core ws values seen = (s : ℕ → Bool) → Blames s values seen → Model s ws → ⊥

-- x is a marked value, and the marked values are to blame
pub record Due (ws values seen : List ℕ) (x : ℕ) : Type 0 where
  pub core : Core ws values seen
  pub fits : x / 2 < length values
  pub set : slice_index_or values (x / 2) 0 ≡ x
  pub marked : slice_index_or seen (x / 2) 0 ≡ 0 → ⊥

-- variables are marked whose values are to blame
pub record Blamed (ws values seen : List ℕ) : Type 0 where
  pub long : length seen ≡ length values
  pub core : Core ws values seen

-- no mark is left, and the literals are a clause that follows
pub record Covered (ws values seen lits : List ℕ) : Type 0 where
  pub clean : (k : ℕ) → k < length values → slice_index seen k ≡ 0
  pub clause : Clause ws lits (length values) 0 (length lits)

-- so many of the variables are marked
abbrev pub Counts : List ℕ → ℕ → Type 0
Counts seen marks = marks + zeros seen ≡ length seen
