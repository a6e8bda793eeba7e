-- What a word of a book's text is: a key word, an operation's name or a number.
use Rattle.std.specs.Prelude.{◌≡◌, ℕ, ◌^◌, ◌<◌, List, codes, ◌≢◌, slice_index, slice_index_or}
use Rattle.terms.specs.Terms.{Term, any, con, lit, unary, binary, ite}
use Rattle.terms.specs.declared.node.Node.{Node}
use Rattle.terms.specs.declared.node.Node.TheVariants as node
use Rattle.book.specs.declared.token.Leaf.{Leaf}
use Rattle.book.specs.declared.token.Leaf.TheVariants.{Any, Con, Lit}
use Rattle.book.specs.declared.token.Operation.{Operation}
use Rattle.book.specs.declared.token.Operation.TheVariants.{Unary, Binary, Ite}
use Rattle.book.specs.declared.token.Token.{Token}
use Rattle.book.specs.declared.token.Token.TheVariants as token
use Rattle.book.specs.Text.{decimal, unary_name, binary_name}

abbrev pub leaf_name : Leaf → List ℕ
leaf_name Any = codes "any"
leaf_name Con = codes "con"
leaf_name Lit = codes "lit"

-- the term of a kind of leaf and its number, and its node
abbrev pub leaf_term : Leaf → ℕ → Term
leaf_term Any n = any n
leaf_term Con n = con n
leaf_term Lit n = lit n

abbrev pub leaf_node : Leaf → ℕ → Node
leaf_node Any n = node.Any n
leaf_node Con n = node.Con n
leaf_node Lit n = node.Lit n

abbrev pub operation_name : Operation → List ℕ
operation_name (Unary o) = unary_name o
operation_name (Binary o) = binary_name o
operation_name Ite = codes "ite"

-- how many parts an operation has, the term that it makes of them, and its node
abbrev pub arity : Operation → ℕ
arity (Unary o) = 1
arity (Binary o) = 2
arity Ite = 3

abbrev pub applied : Operation → List Term → Term
applied (Unary o) es = unary o (slice_index_or es 0 (any 0))
applied (Binary o) es = binary o (slice_index_or es 0 (any 0)) (slice_index_or es 1 (any 0))
applied Ite es = ite (slice_index_or es 0 (any 0)) (slice_index_or es 1 (any 0)) (slice_index_or es 2 (any 0))

abbrev pub operation_node : Operation → List ℕ → Node
operation_node (Unary o) parts = node.Unary o (slice_index parts 0)
operation_node (Binary o) parts = node.Binary o (slice_index parts 0) (slice_index parts 1)
operation_node Ite parts = node.Ite (slice_index parts 0) (slice_index parts 1) (slice_index parts 2)

-- no operation has this name
abbrev pub NoOperation : List ℕ → Type 0
NoOperation w = (o : Operation) → w ≢ operation_name o

-- a word of a book is written so; no word is the end of the text
abbrev pub Writes : Token → List ℕ → Type 0
Writes token.End w = ⊥
Writes token.Rule w = w ≡ codes "rule"
Writes (token.Leaf l) w = w ≡ leaf_name l
Writes (token.Operation o) w = w ≡ operation_name o
Writes (token.Number n) w = (w ≡ decimal n) × (n < 2 ^ 64)
Writes token.Other w = ⊥

-- what a word is: one of the above, or none of them
abbrev pub Is : Token → List ℕ → Type 0
Is token.End w = ⊥
Is token.Rule w = Writes token.Rule w
Is (token.Leaf l) w = Writes (token.Leaf l) w
Is (token.Operation o) w = Writes (token.Operation o) w
Is (token.Number n) w = Writes (token.Number n) w
Is token.Other w = (t : Token) → Writes t w → ⊥
