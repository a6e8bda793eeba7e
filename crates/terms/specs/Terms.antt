-- Terms over machine words, rules between two terms, and when a rule holds.
use Rattle.std.specs.Prelude.{◌≡◌, ℕ, ◌+◌, ◌*◌, ◌^◌, ◌<◌, List, [], ◌∷◌, ◌++◌, ◌==◌, ◌≢◌}
use Rattle.words.specs.declared.Width.{Width}
use Rattle.words.specs.declared.UnaryOp.{UnaryOp}
use Rattle.words.specs.declared.BinaryOp.{BinaryOp}
use Rattle.words.specs.declared.BinaryOp.TheVariants.{Add, Sub, Mul, Udiv, Urem, And, Or, Xor, Shl, Lshr, Ashr, Comp, Ult, Slt}
use Rattle.words.specs.Words.{bits, pick, do1, do2}

-- The name any i stands for any word; con i for a word that is a constant in the listing where the
-- rule is used. In judging both are words like the others.
pub data Term : Type 0 where
  any : ℕ → Term
  con : ℕ → Term
  lit : ℕ → Term
  unary : UnaryOp → Term → Term
  binary : BinaryOp → Term → Term → Term
  ite : Term → Term → Term → Term

-- the value of a term of words of w bits, for the values a of the names any and c of the names con
abbrev pub eval : ℕ → (ℕ → ℕ) → (ℕ → ℕ) → Term → ℕ
eval w a c (any i) = a i
eval w a c (con i) = c i
eval w a c (lit n) = n
eval w a c (unary o x) = do1 w o (eval w a c x)
eval w a c (binary o x y) = do2 w o (eval w a c x) (eval w a c y)
eval w a c (ite t x y) = pick (eval w a c t == 0) (eval w a c y) (eval w a c x)

-- a rule: where no needed term is 0, the first side may be replaced by the second
pub record Rule : Type 0 where
  pub width : Width
  pub needs : List Term
  pub from : Term
  pub to : Term

-- the terms of a rule, in the order of its text
abbrev pub terms : Rule → List Term
terms r = r.needs ++ (r.from ∷ r.to ∷ [])

-- no needed term is 0
abbrev pub Met : ℕ → (ℕ → ℕ) → (ℕ → ℕ) → List Term → Type 0
Met w a c [] = Unit {0}
Met w a c (e ∷ es) = (eval w a c e ≢ 0) × Met w a c es

-- words for all names
abbrev pub Within : ℕ → (ℕ → ℕ) → Type 0
Within w f = (i : ℕ) → f i < 2 ^ w

abbrev pub Holds : Rule → Type 0
Holds r = (a c : ℕ → ℕ) → Within (bits r.width) a → Within (bits r.width) c → Met (bits r.width) a c r.needs → eval (bits r.width) a c r.from ≡ eval (bits r.width) a c r.to

-- values for which a rule fails
pub record Fails (r : Rule) (a c : ℕ → ℕ) : Type 0 where
  pub a_in : Within (bits r.width) a
  pub c_in : Within (bits r.width) c
  pub met : Met (bits r.width) a c r.needs
  pub differ : eval (bits r.width) a c r.from ≡ eval (bits r.width) a c r.to → ⊥

-- how many operations a term has
abbrev pub ops : Term → ℕ
ops (any i) = 0
ops (con i) = 0
ops (lit n) = 0
ops (unary o x) = 1 + ops x
ops (binary o x y) = 1 + (ops x + ops y)
ops (ite t x y) = 1 + (ops t + (ops x + ops y))

abbrev pub ops_all : List Term → ℕ
ops_all [] = 0
ops_all (e ∷ es) = ops e + ops_all es

-- how often the name any i stands in a term
abbrev pub anys : ℕ → Term → ℕ
anys i (any j) = pick (i == j) 1 0
anys i (con j) = 0
anys i (lit n) = 0
anys i (unary o x) = anys i x
anys i (binary o x y) = anys i x + anys i y
anys i (ite t x y) = anys i t + (anys i x + anys i y)

-- how often the name con i stands in a term
abbrev pub cons : ℕ → Term → ℕ
cons i (any j) = 0
cons i (con j) = pick (i == j) 1 0
cons i (lit n) = 0
cons i (unary o x) = cons i x
cons i (binary o x y) = cons i x + cons i y
cons i (ite t x y) = cons i t + (cons i x + cons i y)

-- the weight of deciding a term of words of w bits: a measure of the clauses that it takes
abbrev pub load2 : ℕ → BinaryOp → ℕ
load2 w Add = 16 * w
load2 w Sub = 16 * w
load2 w Mul = 16 * (w * w)
load2 w Udiv = 32 * (w * w)
load2 w Urem = 32 * (w * w)
load2 w And = 4 * w
load2 w Or = 4 * w
load2 w Xor = 4 * w
load2 w Shl = 64 * w
load2 w Lshr = 64 * w
load2 w Ashr = 64 * w
load2 w Comp = 8 * w
load2 w Ult = 16 * w
load2 w Slt = 16 * w

abbrev pub load : ℕ → Term → ℕ
load w (any i) = w
load w (con i) = w
load w (lit n) = w
load w (unary o x) = 16 * w + load w x
load w (binary o x y) = load2 w o + (load w x + load w y)
load w (ite t x y) = 16 * w + (load w t + (load w x + load w y))

abbrev pub load_all : ℕ → List Term → ℕ
load_all w [] = 0
load_all w (e ∷ es) = load w e + load_all w es

-- the weight of deciding a rule
abbrev pub weight : Rule → ℕ
weight r = load_all (bits r.width) r.needs + (load (bits r.width) r.from + load (bits r.width) r.to)

-- a rule that weighs more is too heavy to be judged
abbrev pub limit : ℕ
limit = 200000
