-- The parts of circuits that the code does in functions of their own.
use Rattle.std.specs.Prelude.{ℕ, List, [], ◌∷◌, ◌++◌}
use Rattle.clauses.specs.declared.literal.Literal.{Literal}
use Rattle.clauses.specs.Literals.{negated}
use Rattle.circuit.specs.Nets.{Net, low, said}
use Rattle.circuit.specs.Gates.{and_net, xor_net}
use Rattle.circuit.specs.Circuits.{full_net, add_net, less_net, any_net, row_net, equated_net, unless_net}

-- more numbers
abbrev pub appended : List ℕ → Net → Net
appended xs n = record { next = n.next; out = n.out ++ xs }

-- c, and x and y equal
unfoldable pub equal_bit_net : Literal → Literal → Literal → Net → Net × Literal
equal_bit_net x y c n = let d = xor_net x y n in and_net c (negated d.1) d.0

-- the sum of q, a carry, and y if x
unfoldable pub row_bit_net : Literal → Literal → Literal → Literal → Net → Net × (Literal × Literal)
row_bit_net x y q c n = let a = and_net x y n in full_net a.1 q c a.0

-- a row of a product with its lowest bit, to which nothing is added
abbrev pub product_row_net : Literal → List Literal → List Literal → Net → Net × (List Literal × Literal)
product_row_net x [] qs n = (n, ([], low))
product_row_net x (y ∷ ys) qs n = let p = and_net x y n in let r = row_net x ys qs low p.0 in (r.0, (p.1 ∷ r.1.0, r.1.1))

-- ps and rs have the sum xs, with nothing carried out
abbrev pub sums_net : List Literal → List Literal → List Literal → Net → Net
sums_net ps rs xs n = let s = add_net ps rs low n in equated_net s.1.0 xs (said (negated s.1.1 ∷ []) s.0)

-- rs is below ys, or ys is 0 and qs all ones
abbrev pub bounded_net : List Literal → List Literal → List Literal → Net → Net
bounded_net rs ys qs n =
    let l = less_net rs ys n in
    let a = any_net ys low l.0 in
    unless_net a.1 qs (said (negated a.1 ∷ l.1 ∷ []) a.0)
