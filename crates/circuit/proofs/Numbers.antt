-- A word of bits and the number that it is: each number below 2 ^ w is exactly one word of w bits.
use Rattle.std.proofs.Common.{◌≡◌, ℕ, zero, suc, ◌+◌, ◌*◌, ◌/◌, ◌%◌, ◌^◌, ◌<◌, Bool, true, false, not, eqb, List, [], ◌∷◌, length, sym, refl, ap, ◌∙◌, ap₂, mul_comm, pow-suc, arith, pow_pos}
use lib.Arith.{mod-mul}
use native.Mathlib.Nat.{div-div-eq-div-mul}
use Rattle.words.specs.Words.{odd}
use Rattle.circuit.specs.Bits.{bit, val, bits_of, not_bits, fill}

pub bit_lt : (b : Bool) → bit b < 2
bit_lt true = omega arith
bit_lt false = omega arith

pub bit_not : (b : Bool) → bit (not b) + bit b ≡ 1
bit_not true = refl
bit_not false = refl

-- the lowest digit apart
pub odd_digit : (b : Bool) (m : ℕ) → odd (bit b + 2 * m) ≡ b
odd_digit true m = let e : (1 + 2 * m) % 2 ≡ 1 = omega arith in ap (λ k. eqb k 1) e
odd_digit false m = let e : (0 + 2 * m) % 2 ≡ 0 = omega arith in ap (λ k. eqb k 1) e

pub half_digit : (b : Bool) (m : ℕ) → (bit b + 2 * m) / 2 ≡ m
half_digit b m = omega (arith, bit_lt b)

pub div_digit : (n : ℕ) (b : Bool) (m : ℕ) → (bit b + 2 * m) / 2 ^ suc n ≡ m / 2 ^ n
div_digit n b m =
    ap (λ k. (bit b + 2 * m) / k) (pow-suc 2 n ∙ mul_comm (2 ^ n) 2)
    ∙ (sym (div-div-eq-div-mul (bit b + 2 * m) 2 (2 ^ n)) ∙ ap (λ k. k / 2 ^ n) (half_digit b m))

pub mod_digit : (n b m : ℕ) → b < 2 → (b + 2 * m) % 2 ^ suc n ≡ b + 2 * (m % 2 ^ n)
mod_digit n b m h =
    let q : (b + 2 * m) / 2 ≡ m = omega arith in
    let r : (b + 2 * m) % 2 ≡ b = omega arith in
    let e = mod-mul (b + 2 * m) {m = 2 ^ n} {c = 2} (pow_pos n) (omega arith) in
    rw pow-suc (rw e (rw (q, r) (omega arith)))

pub val_lt : (xs : List Bool) → val xs < 2 ^ length xs
val_lt [] = omega arith
val_lt (x ∷ xs) = rw pow-suc (omega (arith, val_lt xs, bit_lt x))

-- words of one length with one value are one word
digits_same : (x y : Bool) (a b : ℕ) → bit x + 2 * a ≡ bit y + 2 * b → (x ≡ y) × (a ≡ b)
digits_same true true a b e = (refl, omega arith)
digits_same true false a b e = absurd (omega arith)
digits_same false true a b e = absurd (omega arith)
digits_same false false a b e = (refl, omega arith)

pub val_inj : (xs ys : List Bool) → length xs ≡ length ys → val xs ≡ val ys → xs ≡ ys
val_inj [] [] l e = refl
val_inj [] (y ∷ ys) l e = absurd (omega (arith, l))
val_inj (x ∷ xs) [] l e = absurd (omega (arith, l))
val_inj (x ∷ xs) (y ∷ ys) l e =
    let p = digits_same x y (val xs) (val ys) e in
    ap₂ ◌∷◌ p.0 (val_inj xs ys (omega (arith, l)) p.1)

-- a number's bits
pub length_bits_of : (w x : ℕ) → length (bits_of w x) ≡ w
length_bits_of zero x = refl
length_bits_of (suc w) x = ap suc (length_bits_of w (x / 2))

bit_of_digit : (x : ℕ) → x < 2 → bit (eqb x 1) ≡ x
bit_of_digit zero h = refl
bit_of_digit (suc zero) h = refl
bit_of_digit (suc (suc x)) h = omega arith

pub val_bits_of : (w x : ℕ) → x < 2 ^ w → val (bits_of w x) ≡ x
val_bits_of zero x h = omega arith
val_bits_of (suc w) x h =
    let k : x < 2 ^ w * 2 = rw pow-suc at h in
    omega (arith, bit_of_digit (x % 2) (omega arith), val_bits_of w (x / 2) (omega arith))

pub bits_of_val : (xs : List Bool) → bits_of (length xs) (val xs) ≡ xs
bits_of_val [] = refl
bits_of_val (x ∷ xs) = ap₂ ◌∷◌ (odd_digit x (val xs)) (ap (bits_of (length xs)) (half_digit x (val xs)) ∙ bits_of_val xs)

-- the word of zeros, the word of ones, and the complement
pub length_fill : {A : Type 0} (b : A) (xs : List A) → length (fill b xs) ≡ length xs
length_fill b [] = refl
length_fill b (x ∷ xs) = ap suc (length_fill b xs)

pub val_zeros : (xs : List Bool) → val (fill false xs) ≡ 0
val_zeros [] = refl
val_zeros (x ∷ xs) = omega (arith, val_zeros xs)

pub val_ones : (xs : List Bool) → val (fill true xs) + 1 ≡ 2 ^ length xs
val_ones [] = refl
val_ones (x ∷ xs) = rw pow-suc (omega (arith, val_ones xs))

pub length_not : (xs : List Bool) → length (not_bits xs) ≡ length xs
length_not [] = refl
length_not (x ∷ xs) = ap suc (length_not xs)

pub val_not : (xs : List Bool) → val (not_bits xs) + val xs + 1 ≡ 2 ^ length xs
val_not [] = refl
val_not (x ∷ xs) = rw pow-suc (omega (arith, val_not xs, bit_not x))
