-- Terms as nodes in an array: a node names its parts by their places, which come before its own.
use Rattle.std.specs.Prelude.{◌≡◌, ℕ, ◌^◌, ◌<◌, Bool, true, ◌&&◌, List, length, nat_lt, slice_index_or}
use Rattle.std.specs.List.{AllZip}
use Rattle.terms.specs.declared.node.Node.{Node}
use Rattle.terms.specs.declared.node.Node.TheVariants.{Any, Con, Lit, Unary, Binary, Ite}
use Rattle.terms.specs.Terms.{Term, any, con, lit, unary, binary, ite}

-- a node at place i may stand there: its parts come before it, names are below 16, and a literal is a word
abbrev pub sound : ℕ → ℕ → Node → Bool
sound w i (Any k) = nat_lt k 16
sound w i (Con k) = nat_lt k 16
sound w i (Lit n) = nat_lt n (2 ^ w)
sound w i (Unary o j) = nat_lt j i
sound w i (Binary o j k) = nat_lt j i && nat_lt k i
sound w i (Ite h j k) = nat_lt h i && (nat_lt j i && nat_lt k i)

abbrev pub AllSound : ℕ → List Node → Type 0
AllSound w ns = (i : ℕ) → i < length ns → sound w i (slice_index_or ns i (Any 0)) ≡ true

-- node i stands for a term; equal parts of terms may share a node
abbrev pub Stands : List Node → ℕ → Term → Type 0
Stands ns i (any k) = slice_index_or ns i (Any 0) ≡ Any k
Stands ns i (con k) = slice_index_or ns i (Any 0) ≡ Con k
Stands ns i (lit n) = slice_index_or ns i (Any 0) ≡ Lit n
Stands ns i (unary o x) = (j : ℕ) × (slice_index_or ns i (Any 0) ≡ Unary o j) × (j < i) × Stands ns j x
Stands ns i (binary o x y) = (j : ℕ) × (k : ℕ) × (slice_index_or ns i (Any 0) ≡ Binary o j k) × (j < i) × (k < i) × Stands ns j x × Stands ns k y
Stands ns i (ite t x y) = (h : ℕ) × (j : ℕ) × (k : ℕ) × (slice_index_or ns i (Any 0) ≡ Ite h j k) × (h < i) × (j < i) × (k < i) × Stands ns h t × Stands ns j x × Stands ns k y

-- the nodes at these roots stand for these terms, one for one
abbrev pub Rooted : List Node → List ℕ → List Term → Type 0
Rooted ns = AllZip (λ i e. (i < length ns) × Stands ns i e)
