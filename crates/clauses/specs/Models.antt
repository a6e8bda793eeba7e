-- A model as bytes, and as the literals that are true.
use Rattle.std.specs.Int.{from_bool}
use Rattle.std.specs.Prelude.{◌≡◌, ℕ, ◌+◌, ◌-◌, ◌/◌, ◌%◌, ◌<◌, ◌≤◌, Bool, List, ◌==◌, ◌≢◌, slice_index, slice_index_or}

-- the truth of variable v by the bytes of a model
abbrev pub byte_sign : List ℕ → ℕ → Bool
byte_sign m v = slice_index m v == 1

-- the truth of inside variable i + 1 by the codes of the literals that are true
abbrev pub value_sign : List ℕ → ℕ → Bool
value_sign values i = slice_index values (i + 1) % 2 == 0

-- the truth of outside variable v by the codes of the literals that are true, where map has its inside number
abbrev pub written_sign : List ℕ → List ℕ → ℕ → Bool
written_sign map values v = slice_index values (slice_index map v) % 2 == 0

-- a sign as a byte or a word of a model: 1 for true, 0 for false
abbrev pub gives_word : Bool → ℕ → Type 0
gives_word b x = x ≡ from_bool b

-- m' is m with the signs of the variables of the first n words, as gives writes them, by the values of their inside numbers
pub record Written {A : Type 0} (gives : Bool → A → Type 0) (ws map values : List ℕ) (m m' : List A) (n : ℕ) : Type 0 where
  pub named : (k : ℕ) (d : A) → k < n → 2 ≤ slice_index ws k → gives (written_sign map values (slice_index ws k / 2 - 1)) (slice_index_or m' (slice_index ws k / 2 - 1) d)
  pub other : (i : ℕ) (d : A) → ((k : ℕ) → k < n → 2 ≤ slice_index ws k → slice_index ws k / 2 - 1 ≢ i) → slice_index_or m' i d ≡ slice_index_or m i d
