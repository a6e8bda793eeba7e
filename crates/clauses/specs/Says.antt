-- What a solver of clauses promises.
use Rattle.std.specs.Prelude.{◌≡◌, ℕ, ◌+◌, ◌*◌, ◌<◌, ◌⊎◌, ◌↔◌, List, length, Result, Ok, Err, ◌≢◌, slice_index}
use Rattle.clauses.specs.declared.solved.Answer.{Answer}
use Rattle.clauses.specs.declared.solved.Answer.TheVariants.{Met, Never}
use Rattle.clauses.specs.declared.solved.Refusal.{Refusal}
use Rattle.clauses.specs.declared.solved.Refusal.TheVariants.{NoClauses, Small}
use Rattle.clauses.specs.Clauses.{Lit, Every, Unmet, flats, named_in, AllVars}
use Rattle.clauses.specs.Models.{byte_sign}

-- of the numbers s, with w words of work, where the model m becomes m'
abbrev pub Solved : Type 0
Solved = Result Answer Refusal

abbrev pub SolvedSays : List ℕ → ℕ → List ℕ → List ℕ → Solved → Type 0
SolvedSays s w m m' (Ok Met) = (cs : List (List Lit)) × (flats cs ≡ s) × Every (byte_sign m') cs × (length m' ≡ length m) × ((i : ℕ) → (named_in i cs ≡ 0) → slice_index m' i ≡ slice_index m i) × ((i : ℕ) → (named_in i cs ≢ 0) → (slice_index m' i ≡ 1) ⊎ (slice_index m' i ≡ 0))
SolvedSays s w m m' (Ok Never) = (cs : List (List Lit)) × (flats cs ≡ s) × Unmet cs × (m' ≡ m)
SolvedSays s w m m' (Err NoClauses) = ((cs : List (List Lit)) → flats cs ≢ s) × (m' ≡ m)
SolvedSays s w m m' (Err Small) = m' ≡ m

-- too little work, or a variable for which a model of so many bytes has no place
abbrev pub SmallRoom : List ℕ → ℕ → ℕ → Type 0
SmallRoom s w bytes = (w < 32 * length s + (8 * bytes + 4096)) ⊎ ((cs : List (List Lit)) × (flats cs ≡ s) × (AllVars bytes cs → ⊥))

pub record SolvedPost (s : List ℕ) (w : ℕ) (m m' : List ℕ) (r : Solved) : Type 0 where
  pub says : SolvedSays s w m m' r
  pub small : SmallRoom s w (length m) ↔ (r ≡ Err Small)
