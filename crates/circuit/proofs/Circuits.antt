-- Each circuit's net grows.
use Rattle.std.proofs.Common.{Option, Some, None, ℕ, ◌+◌, true, false, cond, ltb, List, [], ◌∷◌}
use Rattle.circuit.specs.declared.shifting.Direction.{Direction}
use Rattle.clauses.specs.declared.literal.Literal.{Literal}
use Rattle.circuit.specs.declared.gates.Folded.{Folded}
use Rattle.circuit.specs.declared.gates.Folded.TheVariants.{Wire, And, Or}
use Rattle.circuit.specs.declared.gates.Bitwise.{Bitwise}
use Rattle.circuit.specs.declared.gates.Bitwise.TheVariants.{Conjunction, Disjunction, Exclusive}
use Rattle.circuit.specs.Bits.{fill, lower, top, moved}
use Rattle.clauses.specs.Literals.{negated}
use Rattle.circuit.specs.Nets.{Net, high, low, said, fresh, taken}
use Rattle.circuit.specs.Gates.{and_rows, xor_rows, majority_rows, choice_rows, gate, fold_and, fold_xor, fold_majority, fold_choice, wire_or, smaller_or, and_net, or_net, xor_net, majority_net, choice_net}
use Rattle.circuit.specs.Circuits.{bit_net, bitwise_net, choose_net, full_net, add_net, borrow_net, less_net, equal_net, any_net, shift_net, row_net, product_net, denied_net, none_net, apart_net, equated_net, unless_net}
use Rattle.circuit.specs.Parts.{equal_bit_net, row_bit_net, product_row_net, sums_net, bounded_net}
use Rattle.circuit.proofs.Growing.{Grows, grows_same, grows_then, said_grows, taken_grows, said_all_grows}

pub gate_grows : (rows : Literal → List (List Literal)) (n : Net) → Grows n (gate rows n).0
gate_grows rows n = grows_then (taken_grows n) (said_all_grows (rows (fresh n)) (taken n))

wire_grows : (f : Option Literal) (g : Net × Literal) (n : Net) → Grows n g.0 → Grows n (wire_or f g n).0
wire_grows (Some l) g n h = grows_same n
wire_grows None g n h = h

pub and_grows : (a b : Literal) (n : Net) → Grows n (and_net a b n).0
and_grows a b n = wire_grows (fold_and a b) (gate (λ o. and_rows o a b) n) n (gate_grows (λ o. and_rows o a b) n)

pub or_grows : (a b : Literal) (n : Net) → Grows n (or_net a b n).0
or_grows a b n = and_grows (negated a) (negated b) n

pub xor_grows : (a b : Literal) (n : Net) → Grows n (xor_net a b n).0
xor_grows a b n = wire_grows (fold_xor a b) (gate (λ o. xor_rows o a b) n) n (gate_grows (λ o. xor_rows o a b) n)

smaller_grows : (f : Option Folded) (g : Net × Literal) (n : Net) → Grows n g.0 → Grows n (smaller_or f g n).0
smaller_grows (Some (Wire l)) g n h = grows_same n
smaller_grows (Some (And x y)) g n h = and_grows x y n
smaller_grows (Some (Or x y)) g n h = or_grows x y n
smaller_grows None g n h = h

pub majority_grows : (a b c : Literal) (n : Net) → Grows n (majority_net a b c n).0
majority_grows a b c n = smaller_grows (fold_majority a b c) (gate (λ o. majority_rows o a b c) n) n (gate_grows (λ o. majority_rows o a b c) n)

pub choice_grows : (s a b : Literal) (n : Net) → Grows n (choice_net s a b n).0
choice_grows s a b n = smaller_grows (fold_choice s a b) (gate (λ o. choice_rows o s a b) n) n (gate_grows (λ o. choice_rows o s a b) n)

pub bit_grows : (o : Bitwise) (a b : Literal) (n : Net) → Grows n (bit_net o a b n).0
bit_grows Conjunction a b n = and_grows a b n
bit_grows Disjunction a b n = or_grows a b n
bit_grows Exclusive a b n = xor_grows a b n

pub bitwise_grows : (o : Bitwise) (xs ys : List Literal) (n : Net) → Grows n (bitwise_net o xs ys n).0
bitwise_grows o [] ys n = grows_same n
bitwise_grows o (x ∷ xs) [] n = grows_same n
bitwise_grows o (x ∷ xs) (y ∷ ys) n = grows_then (bit_grows o x y n) (bitwise_grows o xs ys (bit_net o x y n).0)

pub choose_grows : (s : Literal) (xs ys : List Literal) (n : Net) → Grows n (choose_net s xs ys n).0
choose_grows s [] ys n = grows_same n
choose_grows s (x ∷ xs) [] n = grows_same n
choose_grows s (x ∷ xs) (y ∷ ys) n = grows_then (choice_grows s x y n) (choose_grows s xs ys (choice_net s x y n).0)

pub full_grows : (x y c : Literal) (n : Net) → Grows n (full_net x y c n).0
full_grows x y c n =
    let p = xor_net x y n in
    let s = xor_net p.1 c p.0 in
    grows_then (xor_grows x y n) (grows_then (xor_grows p.1 c p.0) (majority_grows x y c s.0))

pub add_grows : (xs ys : List Literal) (c : Literal) (n : Net) → Grows n (add_net xs ys c n).0
add_grows [] ys c n = grows_same n
add_grows (x ∷ xs) [] c n = grows_same n
add_grows (x ∷ xs) (y ∷ ys) c n = let b = full_net x y c n in grows_then (full_grows x y c n) (add_grows xs ys b.1.1 b.0)

pub borrow_grows : (xs ys : List Literal) (c : Literal) (n : Net) → Grows n (borrow_net xs ys c n).0
borrow_grows [] ys c n = grows_same n
borrow_grows (x ∷ xs) [] c n = grows_same n
borrow_grows (x ∷ xs) (y ∷ ys) c n = let m = majority_net x (negated y) c n in grows_then (majority_grows x (negated y) c n) (borrow_grows xs ys m.1 m.0)

pub less_grows : (xs ys : List Literal) (n : Net) → Grows n (less_net xs ys n).0
less_grows xs ys n = borrow_grows xs ys high n

pub equal_bit_grows : (x y c : Literal) (n : Net) → Grows n (equal_bit_net x y c n).0
unfolding equal_bit_net
equal_bit_grows x y c n = let d = xor_net x y n in grows_then (xor_grows x y n) (and_grows c (negated d.1) d.0)

pub equal_grows : (xs ys : List Literal) (c : Literal) (n : Net) → Grows n (equal_net xs ys c n).0
unfolding equal_bit_net
equal_grows [] ys c n = grows_same n
equal_grows (x ∷ xs) [] c n = grows_same n
equal_grows (x ∷ xs) (y ∷ ys) c n = let e = equal_bit_net x y c n in grows_then (equal_bit_grows x y c n) (equal_grows xs ys e.1 e.0)

pub any_grows : (xs : List Literal) (c : Literal) (n : Net) → Grows n (any_net xs c n).0
any_grows [] c n = grows_same n
any_grows (x ∷ xs) c n = let e = or_net c x n in grows_then (or_grows c x n) (any_grows xs e.1 e.0)

pub row_bit_grows : (x y q c : Literal) (n : Net) → Grows n (row_bit_net x y q c n).0
unfolding row_bit_net
row_bit_grows x y q c n = let a = and_net x y n in grows_then (and_grows x y n) (full_grows a.1 q c a.0)

pub row_grows : (x : Literal) (ys qs : List Literal) (c : Literal) (n : Net) → Grows n (row_net x ys qs c n).0
unfolding row_bit_net
row_grows x [] qs c n = grows_same n
row_grows x (y ∷ ys) [] c n = grows_same n
row_grows x (y ∷ ys) (q ∷ qs) c n = let b = row_bit_net x y q c n in grows_then (row_bit_grows x y q c n) (row_grows x ys qs b.1.1 b.0)

pub product_row_grows : (x : Literal) (ys qs : List Literal) (n : Net) → Grows n (product_row_net x ys qs n).0
product_row_grows x [] qs n = grows_same n
product_row_grows x (y ∷ ys) qs n = let p = and_net x y n in grows_then (and_grows x y n) (row_grows x ys qs low p.0)

pub product_grows : (xs ys : List Literal) (n : Net) → Grows n (product_net xs ys n).0
product_grows [] ys n = grows_same n
product_grows (x ∷ xs) [] n = grows_same n
product_grows (x ∷ xs) (y ∷ ys) n = let q = product_net xs (lower y ys) n in grows_then (product_grows xs (lower y ys) n) (product_row_grows x (y ∷ ys) q.1.0 q.0)

pub shift_grows : (direction : Direction) (b : Literal) (w k : ℕ) (xs cs : List Literal) (n : Net) → Grows n (shift_net direction b w k xs cs n).0
shift_grows direction b w k xs [] n = grows_same n
shift_grows direction b w k xs (c ∷ cs) n =
    let r = choose_net c (moved direction b k xs) xs n in
    let a = any_net (c ∷ cs) low n in
    let stage = grows_then (choose_grows c (moved direction b k xs) xs n) (shift_grows direction b w (k + k) r.1 cs r.0) in
    let out = grows_then (any_grows (c ∷ cs) low n) (choose_grows a.1 (fill b xs) xs a.0) in
    elim (ltb k w) as (λ t. Grows n (cond t (shift_net direction b w (k + k) r.1 cs r.0) (choose_net a.1 (fill b xs) xs a.0)).0) [ true ↦ stage | false ↦ out ]

pub denied_grows : (xs : List Literal) (n : Net) → Grows n (denied_net xs n)
denied_grows [] n = grows_same n
denied_grows (x ∷ xs) n = grows_then (said_grows (negated x ∷ []) n) (denied_grows xs (said (negated x ∷ []) n))

pub none_grows : (b : Literal) (xs : List Literal) (n : Net) → Grows n (none_net b xs n)
none_grows b [] n = grows_same n
none_grows b (x ∷ xs) n = grows_then (said_grows (negated x ∷ negated b ∷ []) n) (none_grows b xs (said (negated x ∷ negated b ∷ []) n))

pub apart_grows : (xs ys : List Literal) (n : Net) → Grows n (apart_net xs ys n)
apart_grows [] ys n = grows_same n
apart_grows (x ∷ xs) [] n = grows_same n
apart_grows (x ∷ xs) (y ∷ ys) n = grows_then (none_grows (top y ys) xs n) (apart_grows xs (lower y ys) (none_net (top y ys) xs n))

pub equated_grows : (xs ys : List Literal) (n : Net) → Grows n (equated_net xs ys n)
equated_grows [] ys n = grows_same n
equated_grows (x ∷ xs) [] n = grows_same n
equated_grows (x ∷ xs) (y ∷ ys) n =
    let m = said (negated x ∷ y ∷ []) n in
    grows_then (said_grows (negated x ∷ y ∷ []) n) (grows_then (said_grows (x ∷ negated y ∷ []) m) (equated_grows xs ys (said (x ∷ negated y ∷ []) m)))

pub unless_grows : (a : Literal) (xs : List Literal) (n : Net) → Grows n (unless_net a xs n)
unless_grows a [] n = grows_same n
unless_grows a (x ∷ xs) n = grows_then (said_grows (a ∷ x ∷ []) n) (unless_grows a xs (said (a ∷ x ∷ []) n))

pub sums_grows : (ps rs xs : List Literal) (n : Net) → Grows n (sums_net ps rs xs n)
sums_grows ps rs xs n =
    let s = add_net ps rs low n in
    let m = said (negated s.1.1 ∷ []) s.0 in
    grows_then (add_grows ps rs low n) (grows_then (said_grows (negated s.1.1 ∷ []) s.0) (equated_grows s.1.0 xs m))

pub bounded_grows : (rs ys qs : List Literal) (n : Net) → Grows n (bounded_net rs ys qs n)
bounded_grows rs ys qs n =
    let l = less_net rs ys n in
    let a = any_net ys low l.0 in
    let m = said (negated a.1 ∷ l.1 ∷ []) a.0 in
    grows_then (less_grows rs ys n) (grows_then (any_grows ys low l.0) (grows_then (said_grows (negated a.1 ∷ l.1 ∷ []) a.0) (unless_grows a.1 qs m)))
