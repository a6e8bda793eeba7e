-- The clauses of a rule: they are met exactly by the words for its names for which it fails.
use Rattle.std.specs.Prelude.{◌≡◌, ℕ, ◌+◌, ◌*◌, ◌<◌, Bool, true, false, List, [], ◌∷◌, ◌++◌, map, take, drop, slice_index_or}
use Rattle.words.specs.Words.{bits}
use Rattle.clauses.specs.declared.literal.Literal.{Literal}
use Rattle.terms.specs.Terms.{Rule, terms}
use Rattle.circuit.specs.Bits.{val, bits_of}
use Rattle.circuit.specs.Nets.{Net, high, low, said, wires}
use Rattle.circuit.specs.declared.gates.Bitwise.TheVariants.{Exclusive}
use Rattle.circuit.specs.Circuits.{bitwise_net, ite_net, divide_net, unary_net, binary_net}
use Rattle.circuit.specs.Meaning.{truth_of}
use Rattle.encoding.specs.declared.entry.Entry.{Entry}
use Rattle.encoding.specs.declared.entry.Entry.TheVariants.{Any, Con, Number, Unary, Binary, Ite, Divide, Part}
use Rattle.encoding.specs.Table.{numbered_all}
use Rattle.encoding.specs.Values.{order}

abbrev pub constant : Bool → Literal
constant true = high
constant false = low

-- Variable 0 is true. Then come the bits of the 32 names, w for each, the lowest first.
abbrev pub start : ℕ → Net
start w = record { next = 1 + 32 * w; out = 2 ∷ 0 ∷ [] }

-- an entry's word, over the words of the entries before it
abbrev pub entry_net : ℕ → List (List Literal) → Entry → Net → Net × List Literal
entry_net w ws (Any k) n = (n, wires w (1 + k * w))
entry_net w ws (Con k) n = (n, wires w (1 + (16 + k) * w))
entry_net w ws (Number x) n = (n, map constant (bits_of w x))
entry_net w ws (Unary o i) n = unary_net o (slice_index_or ws i []) n
entry_net w ws (Binary o i j) n = binary_net o (slice_index_or ws i []) (slice_index_or ws j []) n
entry_net w ws (Ite h i j) n = ite_net (slice_index_or ws h []) (slice_index_or ws i []) (slice_index_or ws j []) n
entry_net w ws (Divide i j) n = divide_net w (slice_index_or ws i []) (slice_index_or ws j []) n
entry_net w ws (Part k p) n = (n, take w (drop (order p * w) (slice_index_or ws k [])))

-- the words of a table's entries
abbrev pub table_net : ℕ → List Entry → List (List Literal) → Net → Net × List (List Literal)
table_net w [] ws n = (n, ws)
table_net w (e ∷ es) ws n = let r = entry_net w ws e n in table_net w es (ws ++ (r.1 ∷ [])) r.0

-- each needed term has a bit that is 1, and the sides have one in which they differ
abbrev pub stated_net : List (List Literal) → List ℕ → Net → Net
stated_net ws [] n = n
stated_net ws (i ∷ []) n = n
stated_net ws (i ∷ j ∷ []) n = let d = bitwise_net Exclusive (slice_index_or ws i []) (slice_index_or ws j []) n in said d.1 d.0
stated_net ws (i ∷ j ∷ k ∷ is) n = stated_net ws (j ∷ k ∷ is) (said (slice_index_or ws i []) n)

abbrev pub encode : Rule → Net
encode r =
    let t = numbered_all (terms r) [] in
    let b = table_net (bits r.width) t.0 [] (start (bits r.width)) in
    stated_net b.1 t.1 b.0

-- the bits of name k by an assignment
abbrev pub name_bits : ℕ → (ℕ → Bool) → ℕ → List Bool
name_bits w s k = map (truth_of s) (wires w (1 + k * w))

-- by the assignment s the names any are the words a, and the names con the words c
pub record Named (w : ℕ) (a c : ℕ → ℕ) (s : ℕ → Bool) : Type 0 where
  pub anys : (k : ℕ) → k < 16 → val (name_bits w s k) ≡ a k
  pub cons : (k : ℕ) → k < 16 → val (name_bits w s (16 + k)) ≡ c k
