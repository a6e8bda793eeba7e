-- Going on from some words of w bits to the next ones, where the first that is used turns fastest.
use Rattle.std.specs.Prelude.{◌≡◌, ℕ, ◌+◌, ◌^◌, ◌<◌, Bool, true, false, List, get_or, slice_index, slice_index_or, ◌⊎◌}
use Rattle.words.specs.Words.{bits}
use Rattle.terms.specs.declared.assignment.Assignment.{Assignment}

abbrev pub Used : List Bool → ℕ → Type 0
Used us j = slice_index_or us j false ≡ true

-- one place goes up by one, and the used places before it from the largest word to 0
pub record Moved (us : List Bool) (w : ℕ) (xs ys : List ℕ) : Type 0 where
  pub place : ℕ
  pub up : get_or ys place 0 ≡ slice_index xs place + 1
  pub low : (j : ℕ) → j < place → Used us j → (slice_index xs j + 1 ≡ 2 ^ w) × (slice_index ys j ≡ 0)
  pub high : (j : ℕ) → place < j → slice_index ys j ≡ slice_index xs j

-- there are next words, or all that are used go from the largest word to 0
abbrev pub Turned : Bool → List Bool → ℕ → List ℕ → List ℕ → Type 0
Turned true us w xs ys = Moved us w xs ys
Turned false us w xs ys = (j : ℕ) → j < 16 → Used us j → (slice_index xs j + 1 ≡ 2 ^ w) × (slice_index ys j ≡ 0)

-- the values of all names go on: those of any, or, after their last ones, those of con; or all were the last ones
abbrev pub Advanced : Bool → List Bool → List Bool → Assignment → Assignment → Type 0
Advanced true anys cons a b = (Moved anys (bits a.width) a.any b.any × (b.con ≡ a.con)) ⊎ (Turned false anys (bits a.width) a.any b.any × Moved cons (bits a.width) a.con b.con)
Advanced false anys cons a b = Turned false anys (bits a.width) a.any b.any × Turned false cons (bits a.width) a.con b.con
