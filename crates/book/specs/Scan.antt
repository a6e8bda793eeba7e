-- The next word of a text, from a place on.
use Rattle.std.specs.Prelude.{◌≡◌, ℕ, ◌<◌, ◌≤◌, List, [], ◌∷◌, length, drop}
use Rattle.book.specs.declared.token.Token.{Token}
use Rattle.book.specs.declared.token.Token.TheVariants as token
use Rattle.book.specs.Text.{words}
use Rattle.book.specs.Tokens.{Is}

-- the words of the text s from the place p on
abbrev pub rest : List ℕ → ℕ → List (List ℕ)
rest s p = words (drop p s)

-- a word stands from p on, is this token, and ends at q
pub record Found (s : List ℕ) (p : ℕ) (t : Token) (q : ℕ) : Type 0 where
  pub word : List ℕ
  pub is : Is t word
  pub before : rest s p ≡ word ∷ rest s q
  pub longer : p < q
  pub within : q ≤ length s

-- the next word, or the end of the text
abbrev pub At : List ℕ → ℕ → Token → ℕ → Type 0
At s p token.End q = rest s p ≡ []
At s p token.Rule q = Found s p token.Rule q
At s p (token.Leaf l) q = Found s p (token.Leaf l) q
At s p (token.Operation o) q = Found s p (token.Operation o) q
At s p (token.Number n) q = Found s p (token.Number n) q
At s p token.Other q = Found s p token.Other q

-- the next word from the place p on is the token t, begins at the place start, and ends at q
abbrev pub Next : List ℕ → ℕ → Token → ℕ → ℕ → Type 0
Next s p t start q = (p ≤ start) × (start ≤ length s) × At s p t q
