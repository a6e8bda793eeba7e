-- A word is written by one token at most.
use Rattle.std.proofs.Common.{◌≡◌, ℕ, ◌<◌, ◌≤◌, false, leb, List, [], ◌∷◌, length, get_or, codes, sym, ap, ◌∙◌, arith}
use Rattle.std.specs.Str.{bytes_eq}
use Rattle.std.proofs.lemmas.Bool.{le-leb, and_from}
use Rattle.words.specs.declared.UnaryOp.TheVariants.{Not, Neg}
use Rattle.words.specs.declared.BinaryOp.TheVariants.{Add, Sub, Mul, Udiv, Urem, And, Or, Xor, Shl, Lshr, Ashr, Comp, Ult, Slt}
use Rattle.words.specs.Words.{pick}
use Rattle.book.specs.declared.token.Leaf.TheVariants.{Any, Con, Lit}
use Rattle.book.specs.declared.token.Operation.TheVariants.{Unary, Binary, Ite}
use Rattle.book.specs.declared.token.Token.{Token}
use Rattle.book.specs.declared.token.Token.TheVariants as token
use Rattle.book.specs.Text.{decimal, unary_name, binary_name}
use Rattle.book.specs.Tokens.{Writes}
use Rattle.book.proofs.Numbers.{value_from, value_decimal, decimal_all, decimal_nonempty, Digits}

-- the token that a word is, computed: a device to tell two tokens apart
abbrev names : List (List ℕ × Token)
names =
    (codes "rule", token.Rule) ∷ (codes "any", token.Leaf Any) ∷ (codes "con", token.Leaf Con) ∷ (codes "lit", token.Leaf Lit)
    ∷ (codes "ite", token.Operation Ite)
    ∷ (unary_name Not, token.Operation (Unary Not)) ∷ (unary_name Neg, token.Operation (Unary Neg))
    ∷ (binary_name Add, token.Operation (Binary Add)) ∷ (binary_name Sub, token.Operation (Binary Sub))
    ∷ (binary_name Mul, token.Operation (Binary Mul)) ∷ (binary_name Udiv, token.Operation (Binary Udiv))
    ∷ (binary_name Urem, token.Operation (Binary Urem)) ∷ (binary_name And, token.Operation (Binary And))
    ∷ (binary_name Or, token.Operation (Binary Or)) ∷ (binary_name Xor, token.Operation (Binary Xor))
    ∷ (binary_name Shl, token.Operation (Binary Shl)) ∷ (binary_name Lshr, token.Operation (Binary Lshr))
    ∷ (binary_name Ashr, token.Operation (Binary Ashr)) ∷ (binary_name Comp, token.Operation (Binary Comp))
    ∷ (binary_name Ult, token.Operation (Binary Ult)) ∷ (binary_name Slt, token.Operation (Binary Slt)) ∷ []

abbrev named : List (List ℕ × Token) → List ℕ → Token
named [] w = token.Other
named (k ∷ ks) w = pick (bytes_eq w k.0) k.1 (named ks w)

-- what begins with a digit is a number
abbrev token_of : List ℕ → Token
token_of w = pick (leb 58 (get_or w 0 0)) (named names w) (token.Number (value_from 0 w))

number_of : (w : List ℕ) → 0 < length w → Digits w → leb 58 (get_or w 0 0) ≡ false
number_of [] some all = absurd (omega arith)
number_of (c ∷ cs) some all = let hi = all.1 in low c hi
  where
    low : (c : ℕ) → c ≤ 57 → leb 58 c ≡ false
    low c h = Rattle.std.proofs.lemmas.Bool.lt-leb 58 c (omega arith)

token_of_lem : (t : Token) (w : List ℕ) → Writes t w → token_of w ≡ t
token_of_lem token.End w h = absurd h
token_of_lem token.Rule w h = ap token_of h
token_of_lem (token.Leaf Any) w h = ap token_of h
token_of_lem (token.Leaf Con) w h = ap token_of h
token_of_lem (token.Leaf Lit) w h = ap token_of h
token_of_lem (token.Operation Ite) w h = ap token_of h
token_of_lem (token.Operation (Unary Not)) w h = ap token_of h
token_of_lem (token.Operation (Unary Neg)) w h = ap token_of h
token_of_lem (token.Operation (Binary Add)) w h = ap token_of h
token_of_lem (token.Operation (Binary Sub)) w h = ap token_of h
token_of_lem (token.Operation (Binary Mul)) w h = ap token_of h
token_of_lem (token.Operation (Binary Udiv)) w h = ap token_of h
token_of_lem (token.Operation (Binary Urem)) w h = ap token_of h
token_of_lem (token.Operation (Binary And)) w h = ap token_of h
token_of_lem (token.Operation (Binary Or)) w h = ap token_of h
token_of_lem (token.Operation (Binary Xor)) w h = ap token_of h
token_of_lem (token.Operation (Binary Shl)) w h = ap token_of h
token_of_lem (token.Operation (Binary Lshr)) w h = ap token_of h
token_of_lem (token.Operation (Binary Ashr)) w h = ap token_of h
token_of_lem (token.Operation (Binary Comp)) w h = ap token_of h
token_of_lem (token.Operation (Binary Ult)) w h = ap token_of h
token_of_lem (token.Operation (Binary Slt)) w h = ap token_of h
token_of_lem (token.Number n) w h =
    let small = h.1 in
    ap token_of h.0
    ∙ ap (λ b. pick b (named names (decimal n)) (token.Number (value_from 0 (decimal n)))) (number_of (decimal n) (decimal_nonempty n) (decimal_all n))
    ∙ ap token.Number (value_decimal n (omega arith))
token_of_lem token.Other w h = absurd h

pub one_token : (t u : Token) (w : List ℕ) → Writes t w → Writes u w → t ≡ u
one_token t u w h k = sym (token_of_lem t w h) ∙ token_of_lem u w k
