-- The ripple of carries adds: the sum and the carry out together, exactly; so subtraction and negation.
use Rattle.std.proofs.Common.{◌≡◌, ℕ, suc, ◌+◌, ◌-◌, ◌*◌, ◌%◌, ◌^◌, ◌<◌, Bool, true, false, List, [], ◌∷◌, length, sym, refl, ap, ◌∙◌, subst, mod-eq_of_lt, mul_assoc, pow-suc, mul_left_comm, arith}
use native.Mathlib.Nat.{add-mul-mod_self_left}
use Rattle.words.specs.Words.{xor}
use Rattle.circuit.specs.Bits.{bit, val, maj, not_bits, fill, add_bits, carry_bits, sub_bits, neg_bits}
use Rattle.circuit.proofs.Numbers.{val_lt, length_fill, val_zeros, length_not, val_not}

-- one full adder
full_adder : (x y c : Bool) → bit (xor (xor x y) c) + 2 * bit (maj x y c) ≡ bit x + bit y + bit c
full_adder true true true = refl
full_adder true true false = refl
full_adder true false true = refl
full_adder true false false = refl
full_adder false true true = refl
full_adder false true false = refl
full_adder false false true = refl
full_adder false false false = refl

pub length_add : (xs ys : List Bool) (c : Bool) → length xs ≡ length ys → length (add_bits xs ys c) ≡ length xs
length_add [] ys c e = refl
length_add (x ∷ xs) [] c e = omega (arith, e)
length_add (x ∷ xs) (y ∷ ys) c e = ap suc (length_add xs ys (maj x y c) (omega (arith, e)))

pub sum_with_carry : (xs ys : List Bool) (c : Bool) → length xs ≡ length ys
    → val (add_bits xs ys c) + 2 ^ length xs * bit (carry_bits xs ys c) ≡ val xs + val ys + bit c
sum_with_carry [] [] c e = omega arith
sum_with_carry [] (y ∷ ys) c e = omega (arith, e)
sum_with_carry (x ∷ xs) [] c e = omega (arith, e)
sum_with_carry (x ∷ xs) (y ∷ ys) c e =
    let ih = sum_with_carry xs ys (maj x y c) (omega (arith, e)) in
    let f = full_adder x y c in
    let p = mul_assoc (2 ^ length xs) 2 (bit (carry_bits xs ys (maj x y c))) in
    let q = mul_left_comm (2 ^ length xs) 2 (bit (carry_bits xs ys (maj x y c))) in
    rw pow-suc (omega arith)

-- what is below p, up to multiples of p
pub rest_is : (p a k n : ℕ) → a < p → a + p * k ≡ n → a ≡ n % p
rest_is p a k n h e = sym (ap (λ z. z % p) (sym e) ∙ (add-mul-mod_self_left _ _ _ ∙ mod-eq_of_lt h))

pub add_right : (xs ys : List Bool) (c : Bool) → length xs ≡ length ys → val (add_bits xs ys c) ≡ (val xs + val ys + bit c) % 2 ^ length xs
add_right xs ys c e =
    rest_is (2 ^ length xs) (val (add_bits xs ys c)) (bit (carry_bits xs ys c)) (val xs + val ys + bit c)
    (subst (λ n. val (add_bits xs ys c) < 2 ^ n) (length_add xs ys c e) (val_lt (add_bits xs ys c)))
    (sum_with_carry xs ys c e)

pub length_sub : (xs ys : List Bool) → length xs ≡ length ys → length (sub_bits xs ys) ≡ length xs
length_sub xs ys e = length_add xs (not_bits ys) true (e ∙ sym (length_not ys))

pub sub_right : (xs ys : List Bool) → length xs ≡ length ys → val (sub_bits xs ys) ≡ (val xs + 2 ^ length xs - val ys) % 2 ^ length xs
sub_right xs ys e =
    let p : 2 ^ length ys ≡ 2 ^ length xs = ap (λ k. 2 ^ k) (sym e) in
    let q : val xs + val (not_bits ys) + 1 ≡ val xs + 2 ^ length xs - val ys = omega (arith, val_not ys) in
    add_right xs (not_bits ys) true (e ∙ sym (length_not ys)) ∙ ap (λ n. n % 2 ^ length xs) q

pub length_neg : (xs : List Bool) → length (neg_bits xs) ≡ length xs
length_neg xs = length_sub (fill false xs) xs (length_fill false xs) ∙ length_fill false xs

pub neg_right : (xs : List Bool) → val (neg_bits xs) ≡ (2 ^ length xs - val xs) % 2 ^ length xs
neg_right xs =
    let q : val (fill false xs) + 2 ^ length xs - val xs ≡ 2 ^ length xs - val xs = omega (arith, val_zeros xs) in
    sub_right (fill false xs) xs (length_fill false xs) ∙ rw (length_fill false xs, q) refl
