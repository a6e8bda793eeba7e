-- How many numbers and variables each circuit takes, for words of so many bits.
use Rattle.std.proofs.Common.{Option, Some, None, ◌≡◌, ℕ, zero, suc, ◌+◌, ◌*◌, ◌^◌, ◌≤◌, Bool, true, false, cond, ltb, List, [], ◌∷◌, length, sym, refl, ap, ◌∙◌, subst, mul_assoc, suc-mul, add-mul, mul-le-mul_left, pow-suc, mul-one, mul-suc, arith}
use Rattle.circuit.specs.declared.shifting.Direction.{Direction}
use Rattle.circuit.specs.declared.shifting.Direction.TheVariants.{Left, Right}
use Rattle.std.proofs.lemmas.List.{length-append}
use Rattle.circuit.proofs.Moving.{length_moved}
use Rattle.circuit.proofs.NewWords.{length_wires}
use Rattle.circuit.proofs.Products.{length_lower}
use Rattle.std.proofs.lemmas.Bool.{ltb-true}
use Rattle.words.specs.declared.UnaryOp.{UnaryOp}
use Rattle.words.specs.declared.UnaryOp.TheVariants.{Not, Neg}
use Rattle.words.specs.declared.BinaryOp.{BinaryOp}
use Rattle.words.specs.declared.BinaryOp.TheVariants.{Add, Sub, Mul, Udiv, Urem, And, Or, Xor, Shl, Lshr, Ashr, Comp, Ult, Slt}
use Rattle.terms.specs.Terms.{load2}
use Rattle.clauses.specs.declared.literal.Literal.{Literal}
use Rattle.circuit.specs.declared.gates.Bitwise.{Bitwise}
use Rattle.circuit.specs.declared.gates.Bitwise.TheVariants.{Conjunction, Disjunction, Exclusive}
use Rattle.circuit.specs.declared.gates.Folded.{Folded}
use Rattle.circuit.specs.declared.gates.Folded.TheVariants.{Wire, And as AndF, Or as OrF}
use Rattle.circuit.specs.Bits.{fill, lower, top, top_of, topped, moved}
use Rattle.clauses.specs.Literals.{negated}
use Rattle.circuit.specs.Nets.{Net, high, low, clause, said, said_all, fresh, taken, wires, free}
use Rattle.circuit.specs.Gates.{and_rows, xor_rows, majority_rows, choice_rows, gate, fold_and, fold_xor, fold_majority, fold_choice, wire_or, smaller_or, and_net, or_net, xor_net, majority_net, choice_net}
use Rattle.circuit.specs.Circuits.{inverted, bit_net, bitwise_net, choose_net, full_net, add_net, borrow_net, less_net, equal_net, any_net, ite_net, shift_net, row_net, product_net, denied_net, none_net, apart_net, equated_net, unless_net, divide_net, unary_net, binary_net}
use Rattle.circuit.specs.Sizes.{Grows}

pub grows_none : (n : Net) (a v : ℕ) → Grows n n a v
grows_none n a v = record { written = omega arith; made = omega arith }

pub grows_then : (n m p : Net) (a v b u : ℕ) → Grows n m a v → Grows m p b u → Grows n p (a + b) (v + u)
grows_then n m p a v b u g h = record { written = omega (arith, g.written, h.written); made = omega (arith, g.made, h.made) }

pub grows_most : (n m : Net) (a v b u : ℕ) → a ≤ b → v ≤ u → Grows n m a v → Grows n m b u
grows_most n m a v b u l k g = record { written = omega (arith, g.written); made = omega (arith, g.made) }

length_clause : (c : List Literal) → length (clause c) ≡ length c + 1
length_clause [] = refl
length_clause (l ∷ ls) = omega (arith, length_clause ls)

pub said_grows : (c : List Literal) (n : Net) → Grows n (said c n) (length c + 1) 0
said_grows c n = record { written = omega (arith, length-append n.out (clause c), length_clause c); made = omega arith }

-- numbers of clauses
abbrev numbers_in : List (List Literal) → ℕ
numbers_in [] = 0
numbers_in (c ∷ cs) = length c + 1 + numbers_in cs

all_grow : (cs : List (List Literal)) (n : Net) → Grows n (said_all cs n) (numbers_in cs) 0
all_grow [] n = grows_none n 0 0
all_grow (c ∷ cs) n = let r = all_grow cs (said c n) in let s = said_grows c n in record { written = omega (arith, r.written, s.written); made = omega (arith, r.made, s.made) }

gate_grows : (rows : Literal → List (List Literal)) (n : Net) → Grows n (gate rows n).0 (numbers_in (rows (fresh n))) 1
gate_grows rows n = let r = all_grow (rows (fresh n)) (taken n) in record { written = omega (arith, r.written); made = omega (arith, r.made) }

-- gates
wire_grows : (f : Option Literal) (g : Net × Literal) (n : Net) (a v : ℕ) → Grows n g.0 a v → Grows n (wire_or f g n).0 a v
wire_grows (Some l) g n a v h = grows_none n a v
wire_grows None g n a v h = h

pub and_grows : (a b : Literal) (n : Net) → Grows n (and_net a b n).0 10 1
and_grows a b n = wire_grows (fold_and a b) _ n 10 1 (gate_grows (λ o. and_rows o a b) n)

pub or_grows : (a b : Literal) (n : Net) → Grows n (or_net a b n).0 10 1
or_grows a b n = and_grows (negated a) (negated b) n

pub xor_grows : (a b : Literal) (n : Net) → Grows n (xor_net a b n).0 16 1
xor_grows a b n = wire_grows (fold_xor a b) _ n 16 1 (gate_grows (λ o. xor_rows o a b) n)

smaller_grows : (f : Option Folded) (g : Net × Literal) (n : Net) (a : ℕ) → 10 ≤ a → Grows n g.0 a 1 → Grows n (smaller_or f g n).0 a 1
smaller_grows (Some (Wire l)) g n a k h = grows_none n a 1
smaller_grows (Some (AndF x y)) g n a k h = grows_most n _ 10 1 a 1 k (omega arith) (and_grows x y n)
smaller_grows (Some (OrF x y)) g n a k h = grows_most n _ 10 1 a 1 k (omega arith) (or_grows x y n)
smaller_grows None g n a k h = h

pub majority_grows : (a b c : Literal) (n : Net) → Grows n (majority_net a b c n).0 24 1
majority_grows a b c n = smaller_grows (fold_majority a b c) _ n 24 (omega arith) (gate_grows (λ o. majority_rows o a b c) n)

pub choice_grows : (s a b : Literal) (n : Net) → Grows n (choice_net s a b n).0 16 1
choice_grows s a b n = smaller_grows (fold_choice s a b) _ n 16 (omega arith) (gate_grows (λ o. choice_rows o s a b) n)

-- words
bit_grows : (o : Bitwise) (a b : Literal) (n : Net) → Grows n (bit_net o a b n).0 16 1
bit_grows Conjunction a b n = grows_most n _ 10 1 16 1 (omega arith) (omega arith) (and_grows a b n)
bit_grows Disjunction a b n = grows_most n _ 10 1 16 1 (omega arith) (omega arith) (or_grows a b n)
bit_grows Exclusive a b n = xor_grows a b n

pub bitwise_grows : (o : Bitwise) (xs ys : List Literal) (n : Net) → Grows n (bitwise_net o xs ys n).0 (16 * length xs) (length xs)
bitwise_grows o [] ys n = grows_none n _ _
bitwise_grows o (x ∷ xs) [] n = grows_none n _ _
bitwise_grows o (x ∷ xs) (y ∷ ys) n =
    let b = bit_grows o x y n in
    let r = bitwise_grows o xs ys (bit_net o x y n).0 in
    record { written = omega (arith, b.written, r.written); made = omega (arith, b.made, r.made) }

pub choose_grows : (s : Literal) (xs ys : List Literal) (n : Net) → Grows n (choose_net s xs ys n).0 (16 * length ys) (length ys)
choose_grows s [] ys n = grows_none n _ _
choose_grows s (x ∷ xs) [] n = grows_none n _ _
choose_grows s (x ∷ xs) (y ∷ ys) n =
    let b = choice_grows s x y n in
    let r = choose_grows s xs ys (choice_net s x y n).0 in
    record { written = omega (arith, b.written, r.written); made = omega (arith, b.made, r.made) }

full_grows : (x y c : Literal) (n : Net) → Grows n (full_net x y c n).0 56 3
full_grows x y c n =
    let p = xor_net x y n in
    let s = xor_net p.1 c p.0 in
    let a = xor_grows x y n in
    let b = xor_grows p.1 c p.0 in
    let d = majority_grows x y c s.0 in
    record { written = omega (arith, a.written, b.written, d.written); made = omega (arith, a.made, b.made, d.made) }

pub add_grows : (xs ys : List Literal) (c : Literal) (n : Net) → Grows n (add_net xs ys c n).0 (56 * length xs) (3 * length xs)
add_grows [] ys c n = grows_none n _ _
add_grows (x ∷ xs) [] c n = grows_none n _ _
add_grows (x ∷ xs) (y ∷ ys) c n =
    let f = full_net x y c n in
    let b = full_grows x y c n in
    let r = add_grows xs ys f.1.1 f.0 in
    record { written = omega (arith, b.written, r.written); made = omega (arith, b.made, r.made) }

borrow_grows : (xs ys : List Literal) (c : Literal) (n : Net) → Grows n (borrow_net xs ys c n).0 (24 * length xs) (length xs)
borrow_grows [] ys c n = grows_none n _ _
borrow_grows (x ∷ xs) [] c n = grows_none n _ _
borrow_grows (x ∷ xs) (y ∷ ys) c n =
    let m = majority_net x (negated y) c n in
    let b = majority_grows x (negated y) c n in
    let r = borrow_grows xs ys m.1 m.0 in
    record { written = omega (arith, b.written, r.written); made = omega (arith, b.made, r.made) }

pub less_grows : (xs ys : List Literal) (n : Net) → Grows n (less_net xs ys n).0 (24 * length xs) (length xs)
less_grows xs ys n = borrow_grows xs ys high n

pub equal_grows : (xs ys : List Literal) (c : Literal) (n : Net) → Grows n (equal_net xs ys c n).0 (26 * length xs) (2 * length xs)
equal_grows [] ys c n = grows_none n _ _
equal_grows (x ∷ xs) [] c n = grows_none n _ _
equal_grows (x ∷ xs) (y ∷ ys) c n =
    let d = xor_net x y n in
    let e = and_net c (negated d.1) d.0 in
    let a = xor_grows x y n in
    let b = and_grows c (negated d.1) d.0 in
    let r = equal_grows xs ys e.1 e.0 in
    record { written = omega (arith, a.written, b.written, r.written); made = omega (arith, a.made, b.made, r.made) }

pub any_grows : (xs : List Literal) (c : Literal) (n : Net) → Grows n (any_net xs c n).0 (10 * length xs) (length xs)
any_grows [] c n = grows_none n _ _
any_grows (x ∷ xs) c n =
    let e = or_net c x n in
    let b = or_grows c x n in
    let r = any_grows xs e.1 e.0 in
    record { written = omega (arith, b.written, r.written); made = omega (arith, b.made, r.made) }

-- a chosen word is as long as the second
pub length_choose : (s : Literal) (xs ys : List Literal) (n : Net) → length xs ≡ length ys → length (choose_net s xs ys n).1 ≡ length ys
length_choose s [] [] n e = refl
length_choose s [] (y ∷ ys) n e = e
length_choose s (x ∷ xs) [] n e = omega (arith, e)
length_choose s (x ∷ xs) (y ∷ ys) n e = ap suc (length_choose s xs ys (choice_net s x y n).0 (omega (arith, e)))

either_grows : (x : Bool) (p q : Net × List Literal) (n : Net) (a v : ℕ) → (x ≡ true → Grows n p.0 a v) → (x ≡ false → Grows n q.0 a v) → Grows n (cond x p q).0 a v
either_grows true p q n a v g h = g refl
either_grows false p q n a v g h = h refl

-- a barrel of t stages: after t doublings the place k is not below the width
pub shift_grows : (t : ℕ) (direction : Direction) (b : Literal) (w k : ℕ) (xs cs : List Literal) (n : Net) → w ≤ k * 2 ^ t → Grows n (shift_net direction b w k xs cs n).0 ((16 * t + 16) * length xs + 10 * length cs) ((t + 1) * length xs + length cs)
shift_grows t direction b w k xs [] n h = grows_none n _ _
shift_grows zero direction b w k xs (c ∷ cs) n h = either_grows (ltb k w) _ _ n _ _
    (λ e. absurd (omega (arith, ltb-true k w e, h, mul-one k)))
    (λ e.
    let a = any_net (c ∷ cs) low n in
    let g = any_grows (c ∷ cs) low n in
    let r = choose_grows a.1 (fill b xs) xs a.0 in
    record { written = omega (arith, g.written, r.written); made = omega (arith, g.made, r.made) })
shift_grows (suc t) direction b w k xs (c ∷ cs) n h =
    let one : (16 * suc t + 16) * length xs ≡ 16 * length xs + (16 * t + 16) * length xs = ap (λ m. m * length xs) (sixteen t) ∙ add-mul 16 (16 * t + 16) (length xs) in
    let two : (suc t + 1) * length xs ≡ length xs + (t + 1) * length xs = ap (λ m. m * length xs) (another t) ∙ (add-mul 1 (t + 1) (length xs) ∙ omega arith) in
    either_grows (ltb k w) _ _ n _ _
    (λ e.
    let m = choose_net c (moved direction b k xs) xs n in
    let long : length m.1 ≡ length xs = length_choose c (moved direction b k xs) xs n (length_moved direction b k xs) in
    let g = choose_grows c (moved direction b k xs) xs n in
    let r = shift_grows t direction b w (k + k) m.1 cs m.0 (omega (arith, h, doubled)) in
    let r1 = subst (λ l. length (shift_net direction b w (k + k) m.1 cs m.0).0.out ≤ length m.0.out + ((16 * t + 16) * l + 10 * length cs)) long r.written in
    let r2 = subst (λ l. (shift_net direction b w (k + k) m.1 cs m.0).0.next ≤ m.0.next + ((t + 1) * l + length cs)) long r.made in
    record { written = omega (arith, g.written, r1, one); made = omega (arith, g.made, r2, two) })
    (λ e.
    let a = any_net (c ∷ cs) low n in
    let g = any_grows (c ∷ cs) low n in
    let r = choose_grows a.1 (fill b xs) xs a.0 in
    record { written = omega (arith, g.written, r.written, one); made = omega (arith, g.made, r.made, two) })
  where
    sixteen : (t : ℕ) → 16 * suc t + 16 ≡ 16 + (16 * t + 16)
    sixteen t = omega arith

    another : (t : ℕ) → suc t + 1 ≡ 1 + (t + 1)
    another t = omega arith

    doubled : k * 2 ^ suc t ≡ (k + k) * 2 ^ t
    doubled = rw pow-suc (omega (arith, mul_assoc k (2 ^ t) 2, add-mul k k (2 ^ t)))

-- a product of m rows: 33 (m ² + m) numbers, and 2 (m ² + m) variables
row_grows : (x : Literal) (ys qs : List Literal) (c : Literal) (n : Net) → Grows n (row_net x ys qs c n).0 (66 * length ys) (4 * length ys)
row_grows x [] qs c n = grows_none n _ _
row_grows x (y ∷ ys) [] c n = grows_none n _ _
row_grows x (y ∷ ys) (q ∷ qs) c n =
    let a = and_net x y n in
    let f = full_net a.1 q c a.0 in
    let g = and_grows x y n in
    let b = full_grows a.1 q c a.0 in
    let r = row_grows x ys qs f.1.1 f.0 in
    record { written = omega (arith, g.written, b.written, r.written); made = omega (arith, g.made, b.made, r.made) }

square_more : (m : ℕ) → suc m * suc m ≡ m * m + 2 * m + 1
square_more m = omega (arith, mul-suc (suc m) m, suc-mul m m)

pub product_grows : (xs ys : List Literal) (n : Net) → length xs ≡ length ys → Grows n (product_net xs ys n).0 (33 * (length xs * length xs + length xs)) (2 * (length xs * length xs + length xs))
product_grows [] ys n e = grows_none n _ _
product_grows (x ∷ xs) [] n e = grows_none n _ _
product_grows (x ∷ xs) (y ∷ ys) n e =
    let q = product_net xs (lower y ys) n in
    let p = and_net x y q.0 in
    let g = product_grows xs (lower y ys) n (omega (arith, e, length_lower y ys)) in
    let a = and_grows x y q.0 in
    let r = row_grows x ys q.1.0 low p.0 in
    let s = square_more (length xs) in
    record { written = omega (arith, e, g.written, a.written, r.written, s); made = omega (arith, e, g.made, a.made, r.made, s) }

-- the clauses of a division
denied_grows : (xs : List Literal) (n : Net) → Grows n (denied_net xs n) (2 * length xs) 0
denied_grows [] n = grows_none n _ _
denied_grows (x ∷ xs) n = let s = said_grows (negated x ∷ []) n in let r = denied_grows xs (said (negated x ∷ []) n) in record { written = omega (arith, s.written, r.written); made = omega (arith, r.made) }

none_grows : (b : Literal) (xs : List Literal) (n : Net) → Grows n (none_net b xs n) (3 * length xs) 0
none_grows b [] n = grows_none n _ _
none_grows b (x ∷ xs) n = let c = negated x ∷ negated b ∷ [] in let s = said_grows c n in let r = none_grows b xs (said c n) in record { written = omega (arith, s.written, r.written); made = omega (arith, r.made) }

apart_grows : (xs ys : List Literal) (n : Net) → Grows n (apart_net xs ys n) (3 * (length xs * length xs)) 0
apart_grows [] ys n = grows_none n _ _
apart_grows (x ∷ xs) [] n = grows_none n _ _
apart_grows (x ∷ xs) (y ∷ ys) n =
    let g = none_grows (top y ys) xs n in
    let r = apart_grows xs (lower y ys) (none_net (top y ys) xs n) in
    record { written = omega (arith, g.written, r.written, square_more (length xs)); made = omega (arith, g.made, r.made) }

equated_grows : (xs ys : List Literal) (n : Net) → Grows n (equated_net xs ys n) (6 * length xs) 0
equated_grows [] ys n = grows_none n _ _
equated_grows (x ∷ xs) [] n = grows_none n _ _
equated_grows (x ∷ xs) (y ∷ ys) n =
    let m = said (negated x ∷ y ∷ []) n in
    let s = said_grows (negated x ∷ y ∷ []) n in
    let t = said_grows (x ∷ negated y ∷ []) m in
    let r = equated_grows xs ys (said (x ∷ negated y ∷ []) m) in
    record { written = omega (arith, s.written, t.written, r.written); made = omega (arith, r.made) }

unless_grows : (a : Literal) (xs : List Literal) (n : Net) → Grows n (unless_net a xs n) (3 * length xs) 0
unless_grows a [] n = grows_none n _ _
unless_grows a (x ∷ xs) n = let s = said_grows (a ∷ x ∷ []) n in let r = unless_grows a xs (said (a ∷ x ∷ []) n) in record { written = omega (arith, s.written, r.written); made = omega (arith, r.made) }

-- words made are no longer than their operands
sum_long : (xs ys : List Literal) (c : Literal) (n : Net) → length (add_net xs ys c n).1.0 ≤ length xs
sum_long [] ys c n = omega arith
sum_long (x ∷ xs) [] c n = omega arith
sum_long (x ∷ xs) (y ∷ ys) c n = let f = full_net x y c n in omega (arith, sum_long xs ys f.1.1 f.0)

row_long : (x : Literal) (ys qs : List Literal) (c : Literal) (n : Net) → length (row_net x ys qs c n).1.0 ≤ length ys
row_long x [] qs c n = omega arith
row_long x (y ∷ ys) [] c n = omega arith
row_long x (y ∷ ys) (q ∷ qs) c n = let a = and_net x y n in let f = full_net a.1 q c a.0 in omega (arith, row_long x ys qs f.1.1 f.0)

product_long : (xs ys : List Literal) (n : Net) → length (product_net xs ys n).1.0 ≤ length ys
product_long [] ys n = omega arith
product_long (x ∷ xs) [] n = omega arith
product_long (x ∷ xs) (y ∷ ys) n = let q = product_net xs (lower y ys) n in omega (arith, row_long x ys q.1.0 low (and_net x y q.0).0)

carries_long : (xs ys : List Literal) (n : Net) → length (product_net xs ys n).1.1 ≤ length xs
carries_long [] ys n = omega arith
carries_long (x ∷ xs) [] n = omega arith
carries_long (x ∷ xs) (y ∷ ys) n = omega (arith, carries_long xs (lower y ys) n)

length_fill : (b : Literal) (xs : List Literal) → length (fill b xs) ≡ length xs
length_fill b [] = refl
length_fill b (x ∷ xs) = ap suc (length_fill b xs)

topped_long : (xs ys : List Literal) → length (topped xs ys) ≤ length xs
topped_long [] ys = omega arith
topped_long (x ∷ xs) [] = omega arith
topped_long (x ∷ []) (y ∷ ys) = omega arith
topped_long (x ∷ x' ∷ xs) (y ∷ ys) = omega (arith, topped_long (x' ∷ xs) ys)

-- Words of w bits, where w is from 2 to 64: the numbers that an operation takes are at most four times its
-- load, and the variables at most its load.
module _ (w : ℕ) (two : 2 ≤ w) (few : w ≤ 64) (xs ys : List Literal) (lx : length xs ≡ w) (ly : length ys ≡ w) where
  square : w * 2 ≤ w * w
  square = mul-le-mul_left w two

  pub divide_grows : (n : Net) → Grows n (divide_net w xs ys n).0 (128 * (w * w)) (32 * (w * w))
  divide_grows n =
      let qs = wires w n.next in
      let rs = wires w (n.next + w) in
      let m = free (w + w) n in
      let p = product_net ys qs m in
      let lq = length_wires w n.next in
      let lr = length_wires w (n.next + w) in
      let g1 = product_grows ys qs m (ly ∙ sym lq) in
      let n1 = denied_net p.1.1 p.0 in
      let g2 = denied_grows p.1.1 p.0 in
      let n2 = apart_net ys qs n1 in
      let g3 = apart_grows ys qs n1 in
      let s = add_net p.1.0 rs low n2 in
      let g4 = add_grows p.1.0 rs low n2 in
      let n3 = said (negated s.1.1 ∷ []) s.0 in
      let g5 = said_grows (negated s.1.1 ∷ []) s.0 in
      let n4 = equated_net s.1.0 xs n3 in
      let g6 = equated_grows s.1.0 xs n3 in
      let l = less_net rs ys n4 in
      let g7 = less_grows rs ys n4 in
      let a = any_net ys low l.0 in
      let g8 = any_grows ys low l.0 in
      let n5 = said (negated a.1 ∷ l.1 ∷ []) a.0 in
      let g9 = said_grows (negated a.1 ∷ l.1 ∷ []) a.0 in
      let g10 = unless_grows a.1 qs n5 in
      let c1 = carries_long ys qs m in
      let c2 = product_long ys qs m in
      let c3 = sum_long p.1.0 rs low n2 in
      let e1 = subst (λ k. length p.0.out ≤ length n.out + 33 * (k * k + k)) ly g1.written in
      let e2 = subst (λ k. p.0.next ≤ n.next + (w + w) + 2 * (k * k + k)) ly g1.made in
      let e3 = subst (λ k. length n2.out ≤ length n1.out + 3 * (k * k)) ly g3.written in
      record {
        written = omega (arith, e1, g2.written, e3, g4.written, g5.written, g6.written, g7.written, g8.written, g9.written, g10.written, c1, c2, c3, lq, lr, lx, ly, square);
        made = omega (arith, e2, g2.made, g3.made, g4.made, g6.made, g7.made, g8.made, g10.made, c1, c2, c3, lq, lr, lx, ly, square);
      }

  pub unary_grows : (o : UnaryOp) (n : Net) → Grows n (unary_net o xs n).0 (64 * w) (16 * w)
  unary_grows Not n = grows_none n _ _
  unary_grows Neg n = let g = add_grows (fill low xs) (inverted xs) high n in record { written = omega (arith, g.written, length_fill low xs, lx); made = omega (arith, g.made, length_fill low xs, lx) }

  pub ite_grows : (ts : List Literal) → length ts ≡ w → (n : Net) → Grows n (ite_net ts xs ys n).0 (64 * w) (16 * w)
  ite_grows ts lt n =
      let a = any_net ts low n in
      let g = any_grows ts low n in
      let h = choose_grows a.1 xs ys a.0 in
      record { written = omega (arith, g.written, h.written, lt, ly); made = omega (arith, g.made, h.made, lt, ly) }

  shifted : (direction : Direction) (b : Literal) (n : Net) → Grows n (shift_net direction b (length xs) 1 xs ys n).0 (256 * w) (64 * w)
  shifted direction b n = let g = shift_grows 6 direction b (length xs) 1 xs ys n (omega (arith, lx)) in record { written = omega (arith, g.written, lx, ly); made = omega (arith, g.made, lx, ly) }

  pub binary_grows : (o : BinaryOp) (n : Net) → Grows n (binary_net o xs ys n).0 (4 * load2 w o) (load2 w o)
  binary_grows Add n = let g = add_grows xs ys low n in record { written = omega (arith, g.written, lx); made = omega (arith, g.made, lx) }
  binary_grows Sub n = let g = add_grows xs (inverted ys) high n in record { written = omega (arith, g.written, lx); made = omega (arith, g.made, lx) }
  binary_grows Mul n =
      let g = product_grows xs ys n (lx ∙ sym ly) in
      let e1 = subst (λ k. length (product_net xs ys n).0.out ≤ length n.out + 33 * (k * k + k)) lx g.written in
      let e2 = subst (λ k. (product_net xs ys n).0.next ≤ n.next + 2 * (k * k + k)) lx g.made in
      record { written = omega (arith, e1, square); made = omega (arith, e2, square) }
  binary_grows Udiv n = grows_none n _ _
  binary_grows Urem n = grows_none n _ _
  binary_grows And n = let g = bitwise_grows Conjunction xs ys n in record { written = omega (arith, g.written, lx); made = omega (arith, g.made, lx) }
  binary_grows Or n = let g = bitwise_grows Disjunction xs ys n in record { written = omega (arith, g.written, lx); made = omega (arith, g.made, lx) }
  binary_grows Xor n = let g = bitwise_grows Exclusive xs ys n in record { written = omega (arith, g.written, lx); made = omega (arith, g.made, lx) }
  binary_grows Shl n = let g = shifted Left low n in record { written = omega (arith, g.written); made = omega (arith, g.made) }
  binary_grows Lshr n = let g = shifted Right low n in record { written = omega (arith, g.written); made = omega (arith, g.made) }
  binary_grows Ashr n = let g = shifted Right (top_of low xs) n in record { written = omega (arith, g.written); made = omega (arith, g.made) }
  binary_grows Comp n = let g = equal_grows xs ys high n in record { written = omega (arith, g.written, lx); made = omega (arith, g.made, lx) }
  binary_grows Ult n = let g = less_grows xs ys n in record { written = omega (arith, g.written, lx); made = omega (arith, g.made, lx) }
  binary_grows Slt n = let g = less_grows (topped xs ys) (topped ys xs) n in record { written = omega (arith, g.written, topped_long xs ys, lx); made = omega (arith, g.made, topped_long xs ys, lx) }
