-- The circuits on literals: each follows one on bits, gate by gate, and its order of gates is the order of its clauses.
use Rattle.std.specs.Prelude.{ℕ, ◌+◌, Bool, true, false, cond, List, [], ◌∷◌, ◌++◌, length, nat_lt}
use Rattle.circuit.specs.declared.shifting.Direction.{Direction}
use Rattle.circuit.specs.declared.shifting.Direction.TheVariants.{Left, Right}
use Rattle.words.specs.declared.UnaryOp.{UnaryOp}
use Rattle.words.specs.declared.UnaryOp.TheVariants.{Not, Neg}
use Rattle.words.specs.declared.BinaryOp.{BinaryOp}
use Rattle.words.specs.declared.BinaryOp.TheVariants.{Add, Sub, Mul, Udiv, Urem, And, Or, Xor, Shl, Lshr, Ashr, Comp, Ult, Slt}
use Rattle.clauses.specs.declared.literal.Literal.{Literal}
use Rattle.circuit.specs.declared.gates.Bitwise.{Bitwise}
use Rattle.circuit.specs.declared.gates.Bitwise.TheVariants.{Conjunction, Disjunction, Exclusive}
use Rattle.circuit.specs.Bits.{fill, flag, topped, lower, top, top_of, moved}
use Rattle.clauses.specs.Literals.{negated}
use Rattle.circuit.specs.Nets.{Net, high, low, said, wires, free}
use Rattle.circuit.specs.Gates.{and_net, or_net, xor_net, majority_net, choice_net}

abbrev pub inverted : List Literal → List Literal
inverted [] = []
inverted (x ∷ xs) = negated x ∷ inverted xs

-- the word, inverted if asked
abbrev pub turned : Bool → List Literal → List Literal
turned true xs = inverted xs
turned false xs = xs

-- bit by bit
abbrev pub bit_net : Bitwise → Literal → Literal → Net → Net × Literal
bit_net Conjunction a b n = and_net a b n
bit_net Disjunction a b n = or_net a b n
bit_net Exclusive a b n = xor_net a b n

abbrev pub bitwise_net : Bitwise → List Literal → List Literal → Net → Net × List Literal
bitwise_net o [] ys n = (n, [])
bitwise_net o (x ∷ xs) [] n = (n, [])
bitwise_net o (x ∷ xs) (y ∷ ys) n = let b = bit_net o x y n in let r = bitwise_net o xs ys b.0 in (r.0, b.1 ∷ r.1)

-- xs if s, else ys
abbrev pub choose_net : Literal → List Literal → List Literal → Net → Net × List Literal
choose_net s [] ys n = (n, [])
choose_net s (x ∷ xs) [] n = (n, [])
choose_net s (x ∷ xs) (y ∷ ys) n = let b = choice_net s x y n in let r = choose_net s xs ys b.0 in (r.0, b.1 ∷ r.1)

-- sum and carry of three bits
abbrev pub full_net : Literal → Literal → Literal → Net → Net × (Literal × Literal)
full_net x y c n = let p = xor_net x y n in let s = xor_net p.1 c p.0 in let m = majority_net x y c s.0 in (m.0, (s.1, m.1))

-- the sum and the carry out
abbrev pub add_net : List Literal → List Literal → Literal → Net → Net × (List Literal × Literal)
add_net [] ys c n = (n, ([], c))
add_net (x ∷ xs) [] c n = (n, ([], c))
add_net (x ∷ xs) (y ∷ ys) c n = let b = full_net x y c n in let r = add_net xs ys b.1.1 b.0 in (r.0, (b.1.0 ∷ r.1.0, r.1.1))

-- 0 if a borrow is left after xs - ys, with one borrowed already if c is 0
abbrev pub borrow_net : List Literal → List Literal → Literal → Net → Net × Literal
borrow_net [] ys c n = (n, c)
borrow_net (x ∷ xs) [] c n = (n, c)
borrow_net (x ∷ xs) (y ∷ ys) c n = let m = majority_net x (negated y) c n in borrow_net xs ys m.1 m.0

abbrev pub less_net : List Literal → List Literal → Net → Net × Literal
less_net xs ys n = let r = borrow_net xs ys high n in (r.0, negated r.1)

abbrev pub equal_net : List Literal → List Literal → Literal → Net → Net × Literal
equal_net [] ys c n = (n, c)
equal_net (x ∷ xs) [] c n = (n, c)
equal_net (x ∷ xs) (y ∷ ys) c n = let d = xor_net x y n in let e = and_net c (negated d.1) d.0 in equal_net xs ys e.1 e.0

abbrev pub any_net : List Literal → Literal → Net → Net × Literal
any_net [] c n = (n, c)
any_net (x ∷ xs) c n = let e = or_net c x n in any_net xs e.1 e.0

abbrev pub ite_net : List Literal → List Literal → List Literal → Net → Net × List Literal
ite_net ts xs ys n = let a = any_net ts low n in choose_net a.1 xs ys a.0

-- a barrel: w is the width, k the place of the count's first bit, b what comes in
abbrev pub shift_net : Direction → Literal → ℕ → ℕ → List Literal → List Literal → Net → Net × List Literal
shift_net direction b w k xs [] n = (n, xs)
shift_net direction b w k xs (c ∷ cs) n =
    cond (nat_lt k w)
    (let r = choose_net c (moved direction b k xs) xs n in shift_net direction b w (k + k) r.1 cs r.0)
    (let a = any_net (c ∷ cs) low n in choose_net a.1 (fill b xs) xs a.0)

-- a row of a product: ys if x, and qs
abbrev pub row_net : Literal → List Literal → List Literal → Literal → Net → Net × (List Literal × Literal)
row_net x [] qs c n = (n, ([], c))
row_net x (y ∷ ys) [] c n = (n, ([], c))
row_net x (y ∷ ys) (q ∷ qs) c n = let a = and_net x y n in let b = full_net a.1 q c a.0 in let r = row_net x ys qs b.1.1 b.0 in (r.0, (b.1.0 ∷ r.1.0, r.1.1))

-- the product, and the carries out of its rows, of which the first is the lowest bit's
abbrev pub product_net : List Literal → List Literal → Net → Net × (List Literal × List Literal)
product_net [] ys n = (n, ([], []))
product_net (x ∷ xs) [] n = (n, ([], []))
product_net (x ∷ xs) (y ∷ ys) n =
    let q = product_net xs (lower y ys) n in
    let p = and_net x y q.0 in
    let r = row_net x ys q.1.0 low p.0 in
    (r.0, (p.1 ∷ r.1.0, r.1.1 ∷ q.1.1))

-- clauses that hold of words
abbrev pub denied_net : List Literal → Net → Net
denied_net [] n = n
denied_net (x ∷ xs) n = denied_net xs (said (negated x ∷ []) n)

abbrev pub none_net : Literal → List Literal → Net → Net
none_net b [] n = n
none_net b (x ∷ xs) n = none_net b xs (said (negated x ∷ negated b ∷ []) n)

abbrev pub apart_net : List Literal → List Literal → Net → Net
apart_net [] ys n = n
apart_net (x ∷ xs) [] n = n
apart_net (x ∷ xs) (y ∷ ys) n = apart_net xs (lower y ys) (none_net (top y ys) xs n)

abbrev pub equated_net : List Literal → List Literal → Net → Net
equated_net [] ys n = n
equated_net (x ∷ xs) [] n = n
equated_net (x ∷ xs) (y ∷ ys) n = equated_net xs ys (said (x ∷ negated y ∷ []) (said (negated x ∷ y ∷ []) n))

abbrev pub unless_net : Literal → List Literal → Net → Net
unless_net a [] n = n
unless_net a (x ∷ xs) n = unless_net a xs (said (a ∷ x ∷ []) n)

-- Division: qs and rs are the quotient and the remainder of xs by ys, where ps is the product of ys and qs
-- and ls its rows' carries.
abbrev pub divides_net : List Literal → List Literal → List Literal → List Literal → List Literal → List Literal → Net → Net
divides_net xs ys qs rs ps ls n =
    let s = add_net ps rs low (apart_net ys qs (denied_net ls n)) in
    let l = less_net rs ys (equated_net s.1.0 xs (said (negated s.1.1 ∷ []) s.0)) in
    let a = any_net ys low l.0 in
    unless_net a.1 qs (said (negated a.1 ∷ l.1 ∷ []) a.0)

-- quotient and remainder are new words, about which the clauses of the division are
abbrev pub divide_net : ℕ → List Literal → List Literal → Net → Net × List Literal
divide_net w xs ys n =
    let qs = wires w n.next in
    let rs = wires w (n.next + w) in
    let p = product_net ys qs (free (w + w) n) in
    (divides_net xs ys qs rs p.1.0 p.1.1 p.0, qs ++ (rs ++ p.1.0))

-- an operation's word; a product's carries and a division's words are made beside it
abbrev pub unary_net : UnaryOp → List Literal → Net → Net × List Literal
unary_net Not xs n = (n, inverted xs)
unary_net Neg xs n = let r = add_net (fill low xs) (inverted xs) high n in (r.0, r.1.0)

abbrev pub flagged : List Literal → Net × Literal → Net × List Literal
flagged xs r = (r.0, flag low r.1 xs)

abbrev pub binary_net : BinaryOp → List Literal → List Literal → Net → Net × List Literal
binary_net Add xs ys n = let r = add_net xs ys low n in (r.0, r.1.0)
binary_net Sub xs ys n = let r = add_net xs (inverted ys) high n in (r.0, r.1.0)
binary_net Mul xs ys n = let r = product_net xs ys n in (r.0, r.1.0)
binary_net Udiv xs ys n = (n, fill low xs)
binary_net Urem xs ys n = (n, fill low xs)
binary_net And xs ys n = bitwise_net Conjunction xs ys n
binary_net Or xs ys n = bitwise_net Disjunction xs ys n
binary_net Xor xs ys n = bitwise_net Exclusive xs ys n
binary_net Shl xs ys n = shift_net Left low (length xs) 1 xs ys n
binary_net Lshr xs ys n = shift_net Right low (length xs) 1 xs ys n
binary_net Ashr xs ys n = shift_net Right (top_of low xs) (length xs) 1 xs ys n
binary_net Comp xs ys n = flagged xs (equal_net xs ys high n)
binary_net Ult xs ys n = flagged xs (less_net xs ys n)
binary_net Slt xs ys n = flagged xs (less_net (topped xs ys) (topped ys xs) n)
