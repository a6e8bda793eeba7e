-- The divider's test holds of exactly the quotient and the remainder, and of one pair of words.
use Rattle.std.proofs.Common.{◌≡◌, ℕ, ◌+◌, ◌-◌, ◌*◌, ◌/◌, ◌%◌, ◌^◌, ◌<◌, Bool, true, false, cond, eqb, ltb, List, length, Decides, sym, refl, ap, ◌∙◌, subst, ap₂, mod-lt, mul_comm, mul-zero, div-add-mod', div-le_self, arith, pow_pos}
use lib.Arith.{digits_div, digits_mod}
use native.Mathlib.Nat.{mod-le}
use Rattle.std.proofs.lemmas.Bool.{lt-ltb, ltb-true, eqb-true, eqb-false, eq-eqb, and_parts, and_from, not-true, not_from_false}
use Rattle.words.specs.Words.{pick, do2}
use Rattle.words.specs.declared.BinaryOp.TheVariants.{Udiv, Urem}
use Rattle.circuit.specs.Bits.{bit, val, bits_of, not_bits, add_bits, carry_bits, ult_bits, equal_bits, any_bits, mul_bits, carries_bits, apart_bits, all_bits, divides_bits}
use Rattle.circuit.proofs.Numbers.{val_lt, val_inj, length_bits_of, val_bits_of}
use Rattle.circuit.proofs.Adder.{sum_with_carry, length_add}
use Rattle.circuit.proofs.Comparisons.{ult_right, equal_right, cond_any, all_right}
use Rattle.circuit.proofs.Products.{lost, length_mul, product_with_lost, none_lost, lost_right}

-- over numbers, z tells whether y is 0: r is below y, or y is 0 and q is n
module _ (x y q r n : ℕ) where
  product_none : eqb y 0 ≡ true → q * y ≡ 0
  product_none t = ap (λ k. q * k) (eqb-true y 0 t) ∙ mul-zero q

  pair_from : (z : Bool) → eqb y 0 ≡ z → pick z (eqb q n) (ltb r y) ≡ true → x ≡ q * y + r → (q ≡ pick z n (x / y)) × (r ≡ pick z x (x % y))
  pair_from true t h e = (eqb-true q n h, omega (arith, e, product_none t))
  pair_from false t h e =
      let k = ltb-true r y h in
      (sym (ap (λ v. v / y) e ∙ digits_div q k), sym (ap (λ v. v % y) e ∙ digits_mod q k))

  pair_to : (z : Bool) → eqb y 0 ≡ z → q ≡ pick z n (x / y) → r ≡ pick z x (x % y) → (pick z (eqb q n) (ltb r y) ≡ true) × (x ≡ q * y + r)
  pair_to true t eq er = (eq-eqb q n eq, omega (arith, er, product_none t))
  pair_to false t eq er =
      let d = eqb-false y 0 t in
      let k : 0 < y = omega arith in
      (lt-ltb r y (rw er (mod-lt x k)), sym (ap₂ (λ a b. a * y + b) eq er ∙ div-add-mod' x y))

bit_none : (b : Bool) → bit b ≡ 0 → b ≡ false
bit_none true h = absurd (omega (arith, h))
bit_none false h = refl

module _ (xs ys qs rs : List Bool) (ex : length xs ≡ length qs) (ey : length ys ≡ length qs) (er : length rs ≡ length qs) where
  room : val xs < 2 ^ length qs
  room = subst (λ n. val xs < 2 ^ n) ex (val_lt xs)

  length_product : length (mul_bits ys qs) ≡ length qs
  length_product = length_mul ys qs ey ∙ ey

  product : val (mul_bits ys qs) + 2 ^ length qs * lost ys qs ≡ val qs * val ys
  product = subst (λ n. val (mul_bits ys qs) + 2 ^ n * lost ys qs ≡ val ys * val qs) ey (product_with_lost ys qs ey) ∙ mul_comm (val ys) (val qs)

  sum : val (add_bits (mul_bits ys qs) rs false) + 2 ^ length qs * bit (carry_bits (mul_bits ys qs) rs false) ≡ val (mul_bits ys qs) + val rs + 0
  sum =
      subst (λ n. val (add_bits (mul_bits ys qs) rs false) + 2 ^ n * bit (carry_bits (mul_bits ys qs) rs false) ≡ val (mul_bits ys qs) + val rs + 0)
      length_product (sum_with_carry (mul_bits ys qs) rs false (length_product ∙ sym er))

  equal : equal_bits (add_bits (mul_bits ys qs) rs false) xs true ≡ eqb (val (add_bits (mul_bits ys qs) rs false)) (val xs)
  equal = equal_right (add_bits (mul_bits ys qs) rs false) xs (length_add (mul_bits ys qs) rs false (length_product ∙ sym er) ∙ (length_product ∙ sym ex))

  bound : cond (any_bits ys false) (ult_bits rs ys) (all_bits qs) ≡ pick (eqb (val ys) 0) (eqb (val qs) (2 ^ length qs - 1)) (ltb (val rs) (val ys))
  bound = cond_any ys (ult_bits rs ys) (all_bits qs) ∙ ap₂ (pick (eqb (val ys) 0)) (all_right qs) (ult_right rs ys (er ∙ sym ey))

  -- the tests before the bound say that x is q y + r
  sum_from : lost ys qs ≡ 0 → carry_bits (mul_bits ys qs) rs false ≡ false → equal_bits (add_bits (mul_bits ys qs) rs false) xs true ≡ true → val xs ≡ val qs * val ys + val rs
  sum_from k c e =
      let s = eqb-true _ _ (sym equal ∙ e) in
      omega (arith, product, sum, mul-zero (2 ^ length qs), ap (λ t. 2 ^ length qs * t) k, ap (λ t. 2 ^ length qs * bit t) c)

  sum_to : val xs ≡ val qs * val ys + val rs → (lost ys qs ≡ 0) × (carry_bits (mul_bits ys qs) rs false ≡ false) × (equal_bits (add_bits (mul_bits ys qs) rs false) xs true ≡ true)
  sum_to e =
      let k : lost ys qs ≡ 0 = none_lost (2 ^ length qs) (lost ys qs) (val (mul_bits ys qs)) (omega (arith, product, room)) in
      let p : 2 ^ length qs * lost ys qs ≡ 0 = ap (λ t. 2 ^ length qs * t) k ∙ mul-zero _ in
      let c : bit (carry_bits (mul_bits ys qs) rs false) ≡ 0 = none_lost (2 ^ length qs) _ (val (add_bits (mul_bits ys qs) rs false)) (omega (arith, product, sum, room)) in
      let q : 2 ^ length qs * bit (carry_bits (mul_bits ys qs) rs false) ≡ 0 = ap (λ t. 2 ^ length qs * t) c ∙ mul-zero _ in
      (k, bit_none _ c, equal ∙ eq-eqb _ _ (omega (arith, product, sum)))

pub divides_right : (xs ys qs rs : List Bool) → length xs ≡ length qs → length ys ≡ length qs → length rs ≡ length qs
    → Decides (divides_bits xs ys qs rs) ((val qs ≡ do2 (length qs) Udiv (val xs) (val ys)) × (val rs ≡ do2 (length qs) Urem (val xs) (val ys)))
divides_right xs ys qs rs ex ey er =
    let n = 2 ^ length qs - 1 in
    let carries = all_bits (not_bits (carries_bits ys qs)) in
    let apart = apart_bits ys qs in (
      (λ h.
          let a = and_parts carries _ h in let b = and_parts apart _ a.1 in let c = and_parts _ _ b.1 in let d = and_parts _ _ c.1 in
          pair_from (val xs) (val ys) (val qs) (val rs) n (eqb (val ys) 0) refl (sym (bound xs ys qs rs ex ey er) ∙ d.1)
          (sum_from xs ys qs rs ex ey er (eqb-true _ _ (sym (lost_right ys qs) ∙ and_from carries apart a.0 b.0)) (not-true _ c.0) d.0)),
      (λ h.
          let r = pair_to (val xs) (val ys) (val qs) (val rs) n (eqb (val ys) 0) refl h.0 h.1 in
          let s = sum_to xs ys qs rs ex ey er r.1 in
          let a = and_parts carries apart (lost_right ys qs ∙ eq-eqb _ _ s.0) in
          and_from carries _ a.0 (and_from apart _ a.1 (and_from _ _ (not_from_false _ s.1) (and_from _ _ s.2 (bound xs ys qs rs ex ey er ∙ r.0))))),
    )

quotient_lt : (w x y : ℕ) → x < 2 ^ w → do2 w Udiv x y < 2 ^ w
quotient_lt w x y h = by_divisor (eqb y 0)
  where
    by_divisor : (z : Bool) → pick z (2 ^ w - 1) (x / y) < 2 ^ w
    by_divisor true = omega (arith, pow_pos w)
    by_divisor false = omega (arith, div-le_self x y)

remainder_lt : (w x y : ℕ) → x < 2 ^ w → do2 w Urem x y < 2 ^ w
remainder_lt w x y h = by_divisor (eqb y 0)
  where
    by_divisor : (z : Bool) → pick z x (x % y) < 2 ^ w
    by_divisor true = h
    by_divisor false = omega (arith, mod-le x y)

pub divides_one : (xs ys : List Bool) → length xs ≡ length ys
    → (qs : List Bool) × (rs : List Bool) × (length qs ≡ length xs) × (length rs ≡ length xs) × (divides_bits xs ys qs rs ≡ true)
    × ((ps ts : List Bool) → length ps ≡ length xs → length ts ≡ length xs → divides_bits xs ys ps ts ≡ true → (ps ≡ qs) × (ts ≡ rs))
divides_one xs ys e =
    let w = length xs in
    let q = do2 w Udiv (val xs) (val ys) in
    let r = do2 w Urem (val xs) (val ys) in
    let qs = bits_of w q in
    let rs = bits_of w r in
    let lq : length qs ≡ w = length_bits_of w q in
    let lr : length rs ≡ w = length_bits_of w r in
    let vq : val qs ≡ q = val_bits_of w q (quotient_lt w (val xs) (val ys) (val_lt xs)) in
    let vr : val rs ≡ r = val_bits_of w r (remainder_lt w (val xs) (val ys) (val_lt xs)) in (
      qs,
      rs,
      lq,
      lr,
      (divides_right xs ys qs rs (sym lq) (sym e ∙ sym lq) (lr ∙ sym lq)).1
          (vq ∙ ap (λ k. do2 k Udiv (val xs) (val ys)) (sym lq), vr ∙ ap (λ k. do2 k Urem (val xs) (val ys)) (sym lq)),
      (λ ps ts lp lt h.
          let d = (divides_right xs ys ps ts (sym lp) (sym e ∙ sym lp) (lt ∙ sym lp)).0 h in (
            val_inj ps qs (lp ∙ sym lq) (d.0 ∙ (ap (λ k. do2 k Udiv (val xs) (val ys)) lp ∙ sym vq)),
            val_inj ts rs (lt ∙ sym lr) (d.1 ∙ (ap (λ k. do2 k Urem (val xs) (val ys)) lp ∙ sym vr)),
          )),
    )
