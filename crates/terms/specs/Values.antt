-- The values of nodes.
use Rattle.std.specs.Prelude.{ℕ, ◌^◌, ◌<◌, List, ◌==◌, slice_index}
use Rattle.words.specs.Words.{pick, do1, do2}
use Rattle.terms.specs.declared.node.Node.{Node}
use Rattle.terms.specs.declared.node.Node.TheVariants.{Any, Con, Lit, Unary, Binary, Ite}

-- the n first numbers of a list are words of w bits
abbrev pub AreWords : ℕ → ℕ → List ℕ → Type 0
AreWords w n xs = (i : ℕ) → i < n → slice_index xs i < 2 ^ w

-- the value of a node, from those of the names any and con and of the nodes before it
abbrev pub node_value : ℕ → List ℕ → List ℕ → List ℕ → Node → ℕ
node_value w a c vs (Any k) = slice_index a k
node_value w a c vs (Con k) = slice_index c k
node_value w a c vs (Lit n) = n
node_value w a c vs (Unary o j) = do1 w o (slice_index vs j)
node_value w a c vs (Binary o j k) = do2 w o (slice_index vs j) (slice_index vs k)
node_value w a c vs (Ite h j k) = pick (slice_index vs h == 0) (slice_index vs k) (slice_index vs j)
