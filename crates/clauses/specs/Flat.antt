-- Clauses as they lie in memory: what it is for an assignment to meet them, word by word.
use Rattle.std.specs.Prelude.{◌≡◌, ℕ, zero, suc, ◌-◌, ◌/◌, ◌%◌, ◌<◌, ◌≤◌, Bool, true, false, ◌||◌, List, [], ◌∷◌, length, ◌==◌, slice_index}
use Rattle.clauses.specs.Clauses.{signed}

-- the truth of the literal that a word stands for
abbrev pub lit_truth : (ℕ → Bool) → ℕ → Bool
lit_truth s x = signed (x % 2 == 0) (s (x / 2 - 1))

-- s meets the clauses of a list of words; b says that it has met the one that the list is in
abbrev pub Meets : (ℕ → Bool) → Bool → List ℕ → Type 0
Meets s b [] = Unit {0}
Meets s b (zero ∷ xs) = (b ≡ true) × Meets s false xs
Meets s b (suc x ∷ xs) = Meets s (b || lit_truth s (suc x)) xs

abbrev pub Model : (ℕ → Bool) → List ℕ → Type 0
Model s ws = Meets s false ws

abbrev pub Hopeless : List ℕ → Type 0
Hopeless ws = (s : ℕ → Bool) → Model s ws → ⊥

-- the words are clauses; b says that the list is in one
abbrev pub Well : Bool → List ℕ → Type 0
Well b [] = b ≡ false
Well b (zero ∷ xs) = Well false xs
Well b (suc zero ∷ xs) = ⊥
Well b (suc (suc x) ∷ xs) = Well true xs

-- each word's half, the number of its variable from 1 on, is below n
abbrev pub Within : List ℕ → ℕ → Type 0
Within ws n = (k : ℕ) → k < length ws → slice_index ws k / 2 < n

pub record Beyond (ws : List ℕ) (n : ℕ) : Type 0 where
  pub at : ℕ
  pub below : at < length ws
  pub far : n ≤ slice_index ws at / 2
