-- A rule book's text: words with blanks between them, in prefix order.
use Rattle.std.specs.Prelude.{◌≡◌, ℕ, zero, suc, ◌+◌, ◌/◌, ◌%◌, Bool, true, ◌&&◌, ◌||◌, List, [], ◌∷◌, ◌++◌, length, codes, ◌==◌, nat_le, nat_lt}
use Rattle.words.specs.declared.UnaryOp.{UnaryOp}
use Rattle.words.specs.declared.UnaryOp.TheVariants.{Not, Neg}
use Rattle.words.specs.declared.BinaryOp.{BinaryOp}
use Rattle.words.specs.declared.BinaryOp.TheVariants.{Add, Sub, Mul, Udiv, Urem, And, Or, Xor, Shl, Lshr, Ashr, Comp, Ult, Slt}
use Rattle.words.specs.Words.{bits, pick}
use Rattle.terms.specs.Terms.{Term, any, con, lit, unary, binary, ite, Rule, terms}
use Rattle.terms.specs.Limits.{ok_rule}

-- the words of a text: what stands between blanks (32) and line ends (10)
abbrev pub blank : ℕ → Bool
blank c = c == 32 || c == 10

abbrev pub close : List ℕ → List (List ℕ) → List (List ℕ)
close [] ws = ws
close (c ∷ cs) ws = (c ∷ cs) ∷ ws

-- the word that a text begins with, which is empty if a blank comes first, and the words after it
abbrev pub split : List ℕ → List ℕ × List (List ℕ)
split [] = ([], [])
split (c ∷ cs) = let r = split cs in pick (blank c) ([], close r.0 r.1) (c ∷ r.0, r.1)

abbrev pub words : List ℕ → List (List ℕ)
words s = let r = split s in close r.0 r.1

-- a number in decimal with no 0 in front, in at most d digits
abbrev pub digits : ℕ → ℕ → List ℕ → List ℕ
digits zero n ds = ds
digits (suc d) n ds = let e = (48 + n % 10) ∷ ds in pick (nat_lt n 10) e (digits d (n / 10) e)

unfoldable pub decimal : ℕ → List ℕ
decimal n = digits 20 n []

-- the names of the operations
abbrev pub unary_name : UnaryOp → List ℕ
unary_name Not = codes "bvnot"
unary_name Neg = codes "bvneg"

abbrev pub binary_name : BinaryOp → List ℕ
binary_name Add = codes "bvadd"
binary_name Sub = codes "bvsub"
binary_name Mul = codes "bvmul"
binary_name Udiv = codes "bvudiv"
binary_name Urem = codes "bvurem"
binary_name And = codes "bvand"
binary_name Or = codes "bvor"
binary_name Xor = codes "bvxor"
binary_name Shl = codes "bvshl"
binary_name Lshr = codes "bvlshr"
binary_name Ashr = codes "bvashr"
binary_name Comp = codes "bvcomp"
binary_name Ult = codes "bvult"
binary_name Slt = codes "bvslt"

-- the words that write a term, terms, a rule and a book
abbrev pub write_term : Term → List (List ℕ)
write_term (any i) = codes "any" ∷ decimal i ∷ []
write_term (con i) = codes "con" ∷ decimal i ∷ []
write_term (lit n) = codes "lit" ∷ decimal n ∷ []
write_term (unary o x) = unary_name o ∷ write_term x
write_term (binary o x y) = binary_name o ∷ (write_term x ++ write_term y)
write_term (ite t x y) = codes "ite" ∷ (write_term t ++ (write_term x ++ write_term y))

abbrev pub write_terms : List Term → List (List ℕ)
write_terms [] = []
write_terms (e ∷ es) = write_term e ++ write_terms es

abbrev pub write_rule : Rule → List (List ℕ)
write_rule r = codes "rule" ∷ decimal (bits r.width) ∷ decimal (length r.needs) ∷ write_terms (terms r)

abbrev pub write_book : List Rule → List (List ℕ)
write_book [] = []
write_book (r ∷ rs) = write_rule r ++ write_book rs

abbrev pub ok_rules : List Rule → Bool
ok_rules [] = true
ok_rules (r ∷ rs) = ok_rule r && ok_rules rs

-- the text s is the writing of the rules rs: at most 256, and each within the limits of a rule
pub record Book (s : List ℕ) (rs : List Rule) : Type 0 where
  pub text : words s ≡ write_book rs
  pub ok : (ok_rules rs && nat_le (length rs) 256) ≡ true

-- a text is the writing of at most one book
abbrev pub OneBook : List ℕ → Type 0
OneBook s = (a b : List Rule) → Book s a → Book s b → a ≡ b
