-- The product by rows, and what of it its word has no place for: the bits beyond the word, and the carries out of the rows.
use Rattle.std.proofs.Common.{◌≡◌, ℕ, zero, suc, ◌+◌, ◌*◌, ◌%◌, ◌^◌, ◌<◌, Bool, true, false, not, ◌&&◌, eqb, List, [], ◌∷◌, length, sym, refl, ap, ◌∙◌, subst, mul_assoc, add-mul, pow-suc, mul-zero, mul-suc, mul-add, mul_left_comm, arith}
use Rattle.std.proofs.lemmas.Bool.Decides.{nat_tests}
use Rattle.circuit.specs.Bits.{bit, val, not_bits, zip_bits, add_bits, carry_bits, lower, top, mul_bits, carries_bits, none_bits, apart_bits, all_bits}
use Rattle.circuit.proofs.Numbers.{val_lt}
use Rattle.circuit.proofs.Adder.{rest_is, sum_with_carry, length_add}
use Rattle.circuit.proofs.Comparisons.{length_zip}

-- a row: the word if the bit is 1
abbrev pub row : Bool → List Bool → List Bool
row b xs = zip_bits (λ a c. b && a) xs xs

bit_and : (x y : Bool) → bit (x && y) ≡ bit x * bit y
bit_and true true = refl
bit_and true false = refl
bit_and false y = omega arith

length_row : (b : Bool) (xs : List Bool) → length (row b xs) ≡ length xs
length_row b xs = length_zip (λ a c. b && a) xs xs refl

val_row : (b : Bool) (xs : List Bool) → val (row b xs) ≡ bit b * val xs
val_row b [] = sym (mul-zero (bit b))
val_row b (x ∷ xs) = omega (arith, bit_and b x, val_row b xs, mul-add (bit b) (bit x) (2 * val xs), mul_left_comm (bit b) 2 (val xs))

pub length_lower : {A : Type 0} (b : A) (xs : List A) → length (lower b xs) ≡ length xs
length_lower b [] = refl
length_lower b (x ∷ xs) = ap suc (length_lower x xs)

val_lower : (b : Bool) (xs : List Bool) → val (lower b xs) + 2 ^ length xs * bit (top b xs) ≡ bit b + 2 * val xs
val_lower b [] = omega arith
val_lower b (x ∷ xs) =
    let ih = val_lower x xs in
    let p = mul_assoc (2 ^ length xs) 2 (bit (top x xs)) in
    let q = mul_left_comm (2 ^ length xs) 2 (bit (top x xs)) in
    rw pow-suc (omega arith)

pub length_mul : (xs ys : List Bool) → length xs ≡ length ys → length (mul_bits xs ys) ≡ length xs
length_mul [] ys e = refl
length_mul (x ∷ xs) [] e = omega (arith, e)
length_mul (x ∷ xs) (y ∷ ys) e =
    let m = length_mul xs (lower y ys) (omega (arith, e, length_lower y ys)) in
    let a = length_add (row x ys) (mul_bits xs (lower y ys)) false (omega (arith, e, m, length_row x ys)) in
    omega (arith, e, a, length_row x ys)

-- how often 2 ^ length is lost in the product
abbrev pub lost : List Bool → List Bool → ℕ
lost [] ys = 0
lost (x ∷ xs) [] = 0
lost (x ∷ xs) (y ∷ ys) = val xs * bit (top y ys) + (lost xs (lower y ys) + bit (carry_bits (row x ys) (mul_bits xs (lower y ys)) false))

-- one row more, over numbers: x and y are the lowest bits, a and b the bits above them, l the bits of y and b but the top bit t,
-- m the product of the rows above, which lose k, s the sum of this row and them, c the carry out of it
one_row : (x y a b l p t c k s m : ℕ) → m + p * k ≡ a * l → l + p * t ≡ y + 2 * b → s + p * c ≡ x * b + m
    → x * y + 2 * s + p * 2 * (a * t + (k + c)) ≡ (x + 2 * a) * (y + 2 * b)
one_row x y a b l p t c k s m above low sum =
    let a1 = add-mul x (2 * a) (y + 2 * b) in
    let a2 = mul-add x y (2 * b) in
    let a3 = mul_left_comm x 2 b in
    let a4 = mul_assoc 2 a (y + 2 * b) in
    let a5 : a * (y + 2 * b) ≡ a * (l + p * t) = ap (λ z. a * z) (sym low) in
    let a6 = mul-add a l (p * t) in
    let a7 = mul_left_comm a p t in
    let b1 = mul_assoc p 2 (a * t + (k + c)) in
    let b2 = mul_left_comm p 2 (a * t + (k + c)) in
    let b3 = mul-add p (a * t) (k + c) in
    let b4 = mul-add p k c in
    omega arith

pub product_with_lost : (xs ys : List Bool) → length xs ≡ length ys → val (mul_bits xs ys) + 2 ^ length xs * lost xs ys ≡ val xs * val ys
product_with_lost [] [] e = omega arith
product_with_lost [] (y ∷ ys) e = omega (arith, e)
product_with_lost (x ∷ xs) [] e = omega (arith, e)
product_with_lost (x ∷ xs) (y ∷ ys) e =
    let l : length xs ≡ length ys = omega (arith, e) in
    let above = mul_bits xs (lower y ys) in
    let ih = product_with_lost xs (lower y ys) (l ∙ sym (length_lower y ys)) in
    let low = subst (λ n. val (lower y ys) + 2 ^ n * bit (top y ys) ≡ bit y + 2 * val ys) (sym l) (val_lower y ys) in
    let len = length_mul xs (lower y ys) (l ∙ sym (length_lower y ys)) in
    let sum = subst (λ n. val (add_bits (row x ys) above false) + 2 ^ n * bit (carry_bits (row x ys) above false) ≡ val (row x ys) + val above + 0)
    (length_row x ys ∙ sym l) (sum_with_carry (row x ys) above false (omega (arith, len, length_row x ys))) in
    rw (pow-suc, bit_and)
    (one_row (bit x) (bit y) (val xs) (val ys) (val (lower y ys)) (2 ^ length xs) (bit (top y ys)) (bit (carry_bits (row x ys) above false))
    (lost xs (lower y ys)) (val (add_bits (row x ys) above false)) (val above) ih low (omega (arith, sum, val_row x ys)))

pub mul_right : (xs ys : List Bool) → length xs ≡ length ys → val (mul_bits xs ys) ≡ val xs * val ys % 2 ^ length xs
mul_right xs ys e =
    rest_is (2 ^ length xs) (val (mul_bits xs ys)) (lost xs ys) (val xs * val ys)
    (subst (λ n. val (mul_bits xs ys) < 2 ^ n) (length_mul xs ys e) (val_lt (mul_bits xs ys)))
    (product_with_lost xs ys e)

pub none_lost : (p k a : ℕ) → a + p * k < p → k ≡ 0
none_lost p zero a h = refl
none_lost p (suc k) a h = omega (arith, mul-suc p k)

-- nothing is lost exactly if no carry goes out of a row and no bits meet beyond the word
none_step : (x b : Bool) (a : ℕ) → (not (x && b) && eqb (a * bit b) 0) ≡ eqb ((bit x + 2 * a) * bit b) 0
none_step true true a = grind (arith, nat_tests)
none_step true false a = grind (arith, nat_tests)
none_step false true a = grind (arith, nat_tests)
none_step false false a = grind (arith, nat_tests)

none_right : (b : Bool) (xs : List Bool) → none_bits b xs ≡ eqb (val xs * bit b) 0
none_right b [] = sym (ap (λ n. eqb n 0) (zero_times (bit b)))
  where
    zero_times : (n : ℕ) → 0 * n ≡ 0
    zero_times n = omega arith
none_right b (x ∷ xs) = ap (λ t. not (x && b) && t) (none_right b xs) ∙ none_step x b (val xs)

pub lost_right : (xs ys : List Bool) → (all_bits (not_bits (carries_bits xs ys)) && apart_bits xs ys) ≡ eqb (lost xs ys) 0
lost_right [] ys = refl
lost_right (x ∷ xs) [] = refl
lost_right (x ∷ xs) (y ∷ ys) =
    step (carry_bits (row x ys) (mul_bits xs (lower y ys)) false) (all_bits (not_bits (carries_bits xs (lower y ys)))) (apart_bits xs (lower y ys))
    (val xs * bit (top y ys)) (lost xs (lower y ys)) (none_bits (top y ys) xs) (none_right (top y ys) xs) (lost_right xs (lower y ys))
  where
    step : (c a p : Bool) (n k : ℕ) (s : Bool) → s ≡ eqb n 0 → (a && p) ≡ eqb k 0 → ((not c && a) && (s && p)) ≡ eqb (n + (k + bit c)) 0
    step true a p n k s es e = grind (arith, nat_tests)
    step false a p n k s es e = grind (arith, nat_tests)
