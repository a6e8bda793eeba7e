-- The table of a rule's words: its terms in prefix order, parts before the whole, each equal entry once.
use Rattle.std.specs.Prelude.{◌≡◌, ℕ, suc, ◌+◌, ◌≤◌, min, max, Bool, cond, List, [], ◌∷◌, ◌++◌, length, ◌==◌, nat_lt, slice_index_or}
use Rattle.words.specs.declared.BinaryOp.{BinaryOp}
use Rattle.words.specs.declared.BinaryOp.TheVariants.{Add, Sub, Mul, Udiv, Urem, And, Or, Xor, Shl, Lshr, Ashr, Comp, Ult, Slt}
use Rattle.terms.specs.declared.node.Node.{Node}
use Rattle.terms.specs.Nodes.{Stands}
use Rattle.terms.specs.Terms.{Term, any, con, lit, unary, binary, ite}
use Rattle.encoding.specs.declared.entry.Entry.{Entry}
use Rattle.encoding.specs.declared.entry.Entry.TheVariants.{Any, Con, Number, Unary, Binary, Ite, Divide, Part}
use Rattle.encoding.specs.declared.entry.DivisionWord.{DivisionWord}
use Rattle.encoding.specs.declared.entry.DivisionWord.TheVariants.{Quotient, Remainder, Product, Other}
use Rattle.encoding.specs.contracts.entry.EntryPartialEq.TheImpl as comparison

-- whether two entries are one, as the type's comparison says
abbrev pub same : Entry → Entry → Bool
same a b = comparison.ghosts.eq a b

-- the place of the first entry that is this one, or the one after the last
abbrev pub find : Entry → List Entry → ℕ
find e [] = 0
find e (x ∷ xs) = cond (same x e) 0 (suc (find e xs))

-- the table with an entry, and the entry's place
abbrev pub place : Entry → List Entry → List Entry × ℕ
place e t = let i = find e t in (cond (nat_lt i (length t)) t (t ++ (e ∷ [])), i)

-- operands whose order doesn't matter, the earlier first
abbrev pub sorted : BinaryOp → ℕ → ℕ → Entry
sorted o i j = Binary o (min i j) (max i j)

-- A product of words i and j, i before j: where j is the quotient of a division by i, the product is the
-- one that the division has made.
abbrev pub by_divider : Entry → ℕ → ℕ → ℕ → Entry
by_divider (Divide x y) k i j = cond (y == i) (Part k Product) (Binary Mul i j)
by_divider (Any x) k i j = Binary Mul i j
by_divider (Con x) k i j = Binary Mul i j
by_divider (Number x) k i j = Binary Mul i j
by_divider (Unary o x) k i j = Binary Mul i j
by_divider (Binary o x y) k i j = Binary Mul i j
by_divider (Ite h x y) k i j = Binary Mul i j
by_divider (Part x p) k i j = Binary Mul i j

abbrev pub by_quotient : List Entry → Entry → ℕ → ℕ → Entry
by_quotient t (Part k Quotient) i j = by_divider (slice_index_or t k (Any 0)) k i j
by_quotient t (Part k Remainder) i j = Binary Mul i j
by_quotient t (Part k Product) i j = Binary Mul i j
by_quotient t (Part k (Other p)) i j = Binary Mul i j
by_quotient t (Any x) i j = Binary Mul i j
by_quotient t (Con x) i j = Binary Mul i j
by_quotient t (Number x) i j = Binary Mul i j
by_quotient t (Unary o x) i j = Binary Mul i j
by_quotient t (Binary o x y) i j = Binary Mul i j
by_quotient t (Ite h x y) i j = Binary Mul i j
by_quotient t (Divide x y) i j = Binary Mul i j

abbrev pub product : List Entry → ℕ → ℕ → Entry
product t i j = by_quotient t (slice_index_or t j (Any 0)) i j

-- a division, and one of its words
abbrev pub divided : DivisionWord → ℕ → ℕ → List Entry → List Entry × ℕ
divided p i j t = let d = place (Divide i j) t in place (Part d.1 p) d.0

-- an operation on entries i and j
abbrev pub operated : BinaryOp → ℕ → ℕ → List Entry → List Entry × ℕ
operated Add i j t = place (sorted Add i j) t
operated Sub i j t = place (Binary Sub i j) t
operated Mul i j t = place (product t (min i j) (max i j)) t
operated Udiv i j t = divided Quotient i j t
operated Urem i j t = divided Remainder i j t
operated And i j t = place (sorted And i j) t
operated Or i j t = place (sorted Or i j) t
operated Xor i j t = place (sorted Xor i j) t
operated Shl i j t = place (Binary Shl i j) t
operated Lshr i j t = place (Binary Lshr i j) t
operated Ashr i j t = place (Binary Ashr i j) t
operated Comp i j t = place (sorted Comp i j) t
operated Ult i j t = place (Binary Ult i j) t
operated Slt i j t = place (Binary Slt i j) t

-- the table with a term, and the place of its word
abbrev pub numbered : Term → List Entry → List Entry × ℕ
numbered (any k) t = place (Any k) t
numbered (con k) t = place (Con k) t
numbered (lit x) t = place (Number x) t
numbered (unary o x) t = let a = numbered x t in place (Unary o a.1) a.0
numbered (binary o x y) t = let a = numbered x t in let b = numbered y a.0 in operated o a.1 b.1 b.0
numbered (ite h x y) t = let c = numbered h t in let a = numbered x c.0 in let b = numbered y a.0 in place (Ite c.1 a.1 b.1) b.0

-- the table with several terms, and their places
abbrev pub numbered_all : List Term → List Entry → List Entry × List ℕ
numbered_all [] t = (t, [])
numbered_all (e ∷ es) t = let a = numbered e t in let r = numbered_all es a.0 in (r.0, a.1 ∷ r.1)

-- the most entries that a term makes
abbrev pub entries_in : Term → ℕ
entries_in (any k) = 1
entries_in (con k) = 1
entries_in (lit x) = 1
entries_in (unary o x) = 1 + entries_in x
entries_in (binary o x y) = 2 + (entries_in x + entries_in y)
entries_in (ite h x y) = 1 + (entries_in h + (entries_in x + entries_in y))

-- the table old became new, where entry r is the term at node i
pub record Numbers (ns : List Node) (i : ℕ) (old new : List Entry) (r : ℕ) : Type 0 where
  pub table : (e : Term) → Stands ns i e → new ≡ (numbered e old).0
  pub place : (e : Term) → Stands ns i e → r ≡ (numbered e old).1
  pub more : (e : Term) → Stands ns i e → length new ≤ length old + entries_in e

abbrev pub entries_all : List Term → ℕ
entries_all [] = 0
entries_all (e ∷ es) = entries_in e + entries_all es
