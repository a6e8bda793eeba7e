-- The tests on words: below, with and without sign, equality, and whether any bit is 1; and the choice by a test.
use Rattle.std.proofs.Common.{◌≡◌, ℕ, zero, suc, ◌+◌, ◌-◌, ◌*◌, ◌%◌, ◌^◌, ◌<◌, Bool, true, false, cond, not, ◌&&◌, ◌||◌, eqb, ltb, List, [], ◌∷◌, length, sym, refl, ap, ◌∙◌, subst, ap₂, mul_assoc, pow-suc, mul-zero, mul-one, mul_left_comm, arith, pow_pos}
use Rattle.std.proofs.lemmas.Bool.{lt-ltb, le-ltb, ne_eqb}
use Rattle.std.proofs.lemmas.Bool.Decides.{nat_tests}
use Rattle.words.specs.Words.{pick, xor, moved}
use Rattle.circuit.specs.Bits.{bit, val, not_bits, zip_bits, flag, carry_bits, sub_bits, ult_bits, topped, slt_bits, equal_bits, any_bits, top, all_bits}
use Rattle.circuit.proofs.Numbers.{bit_lt, val_lt, length_not, val_not, val_zeros, length_fill}
use Rattle.circuit.proofs.Adder.{rest_is, sum_with_carry, length_sub}

pub ult_right : (xs ys : List Bool) → length xs ≡ length ys → ult_bits xs ys ≡ ltb (val xs) (val ys)
ult_right xs ys e = go (carry_bits xs (not_bits ys) true) (sum_with_carry xs (not_bits ys) true (e ∙ sym (length_not ys)))
  where
    p : 2 ^ length xs ≡ 2 ^ length ys
    p = ap (λ k. 2 ^ k) e

    go : (c : Bool) → val (sub_bits xs ys) + 2 ^ length xs * bit c ≡ val xs + val (not_bits ys) + 1 → not c ≡ ltb (val xs) (val ys)
    go true h = sym (le-ltb (val xs) (val ys) (omega (arith, val_not ys, p, h, mul-one (2 ^ length xs))))
    go false h = sym (lt-ltb (val xs) (val ys) (omega (arith, val_not ys, p, val_lt (sub_bits xs ys), ap (λ k. 2 ^ k) (length_sub xs ys e), h, mul-zero (2 ^ length xs))))

-- Two words that differ at most in their top bit: the others are one number l.
record Tops (w v u : ℕ) (t s : Bool) : Type 0 where
  l : ℕ
  room : l < 2 ^ w
  whole : v ≡ l + 2 ^ w * bit t
  other : u ≡ l + 2 ^ w * bit s

tops : (x y : Bool) (xs ys : List Bool) → length xs ≡ length ys
    → Tops (length xs) (val (x ∷ xs)) (val (topped (x ∷ xs) (y ∷ ys))) (top x xs) (top y ys)
tops x y [] [] e = record { l = 0; room = omega arith; whole = omega arith; other = omega arith }
tops x y [] (y' ∷ ys) e = absurd (omega (arith, e))
tops x y (x' ∷ xs) [] e = absurd (omega (arith, e))
tops x y (x' ∷ xs) (y' ∷ ys) e =
    let ih = tops x' y' xs ys (omega (arith, e)) in
    let p = pow-suc 2 (length xs) in
    record {
      l = bit x + 2 * ih.l;
      room = omega (arith, ih.room, bit_lt x);
      whole = omega (arith, ih.whole, ap (λ k. k * bit (top x' xs)) p, mul_assoc (2 ^ length xs) 2 (bit (top x' xs)), mul_left_comm (2 ^ length xs) 2 (bit (top x' xs)));
      other = omega (arith, ih.other, ap (λ k. k * bit (top y' ys)) p, mul_assoc (2 ^ length xs) 2 (bit (top y' ys)), mul_left_comm (2 ^ length xs) 2 (bit (top y' ys)));
    }

length_topped : {A : Type 0} (xs ys : List A) → length xs ≡ length ys → length (topped xs ys) ≡ length xs
length_topped [] ys e = refl
length_topped (x ∷ xs) [] e = absurd (omega (arith, e))
length_topped (x ∷ []) (y ∷ ys) e = refl
length_topped (x ∷ x' ∷ xs) (y ∷ ys) e = ap suc (length_topped (x' ∷ xs) ys (omega (arith, e)))

-- a number moved up by half the range has its top bit turned
turned : (w l : ℕ) (t : Bool) → l < 2 ^ w → (l + 2 ^ w * bit t + 2 ^ w) % 2 ^ suc w ≡ l + 2 ^ w * bit (not t)
turned w l true h =
    let p = pow-suc 2 w in
    sym (rest_is (2 ^ suc w) (l + 2 ^ w * 0) 1 (l + 2 ^ w * 1 + 2 ^ w) (omega (arith, mul-zero (2 ^ w))) (omega (arith, mul-zero (2 ^ w), mul-one (2 ^ w), mul-one (2 ^ suc w))))
turned w l false h =
    let p = pow-suc 2 w in
    sym (rest_is (2 ^ suc w) (l + 2 ^ w * 1) 0 (l + 2 ^ w * 0 + 2 ^ w) (omega (arith, mul-one (2 ^ w))) (omega (arith, mul-zero (2 ^ w), mul-one (2 ^ w), mul-zero (2 ^ suc w))))

moved_turned : {w v u : ℕ} {t s : Bool} (a : Tops w v u t s) → moved (suc w) v ≡ a.l + 2 ^ w * bit (not t)
moved_turned {w} {v} {u} {t} {s} a =
    let e : suc w - 1 ≡ w = omega arith in
    ap₂ (λ n k. (n + 2 ^ k) % 2 ^ suc w) a.whole e ∙ turned w a.l t a.room

exchanged : (p l m : ℕ) (t s : Bool) → l < p → m < p → ltb (l + p * bit s) (m + p * bit t) ≡ ltb (l + p * bit (not t)) (m + p * bit (not s))
exchanged p l m true true hl hm = grind (arith, nat_tests, mul-one p, mul-zero p)
exchanged p l m true false hl hm = refl
exchanged p l m false true hl hm = refl
exchanged p l m false false hl hm = grind (arith, nat_tests, mul-one p, mul-zero p)

pub slt_right : (xs ys : List Bool) → length xs ≡ length ys → 0 < length xs
    → slt_bits xs ys ≡ ltb (moved (length xs) (val xs)) (moved (length xs) (val ys))
slt_right [] ys e h = absurd (omega arith)
slt_right (x ∷ xs) [] e h = absurd (omega (arith, e))
slt_right (x ∷ xs) (y ∷ ys) e h =
    let l : length xs ≡ length ys = omega (arith, e) in
    let a = tops x y xs ys l in
    let b = subst (λ n. Tops n (val (y ∷ ys)) (val (topped (y ∷ ys) (x ∷ xs))) (top y ys) (top x xs)) (sym l) (tops y x ys xs (sym l)) in
    ult_right (topped (x ∷ xs) (y ∷ ys)) (topped (y ∷ ys) (x ∷ xs)) (length_topped (x ∷ xs) (y ∷ ys) e ∙ (e ∙ sym (length_topped (y ∷ ys) (x ∷ xs) (sym e))))
    ∙ (ap₂ ltb a.other b.other
    ∙ (exchanged (2 ^ length xs) a.l b.l (top x xs) (top y ys) a.room b.room
    ∙ sym (ap₂ ltb (moved_turned a) (moved_turned b))))

equal_step : (x y c : Bool) (a b : ℕ) → ((c && not (xor x y)) && eqb a b) ≡ (c && eqb (bit x + 2 * a) (bit y + 2 * b))
equal_step x y false a b = refl
equal_step true true true a b = grind (arith, nat_tests)
equal_step true false true a b = grind (arith, nat_tests)
equal_step false true true a b = grind (arith, nat_tests)
equal_step false false true a b = grind (arith, nat_tests)

equal_after : (xs ys : List Bool) (c : Bool) → length xs ≡ length ys → equal_bits xs ys c ≡ (c && eqb (val xs) (val ys))
equal_after [] [] true e = refl
equal_after [] [] false e = refl
equal_after [] (y ∷ ys) c e = absurd (omega (arith, e))
equal_after (x ∷ xs) [] c e = absurd (omega (arith, e))
equal_after (x ∷ xs) (y ∷ ys) c e = equal_after xs ys (c && not (xor x y)) (omega (arith, e)) ∙ equal_step x y c (val xs) (val ys)

pub equal_right : (xs ys : List Bool) → length xs ≡ length ys → equal_bits xs ys true ≡ eqb (val xs) (val ys)
equal_right xs ys e = equal_after xs ys true e

any_step : (x c : Bool) (a : ℕ) → ((c || x) || ltb 0 a) ≡ (c || ltb 0 (bit x + 2 * a))
any_step x true a = refl
any_step true false a = grind (arith, nat_tests)
any_step false false a = grind (arith, nat_tests)

any_after : (xs : List Bool) (c : Bool) → any_bits xs c ≡ (c || ltb 0 (val xs))
any_after [] true = refl
any_after [] false = refl
any_after (x ∷ xs) c = any_after xs (c || x) ∙ any_step x c (val xs)

pub any_right : (xs : List Bool) → any_bits xs false ≡ ltb 0 (val xs)
any_right xs = any_after xs false

-- a choice by whether any bit is 1
pub cond_any : {A : Type 0} (ts : List Bool) (a b : A) → cond (any_bits ts false) a b ≡ pick (eqb (val ts) 0) b a
cond_any ts a b = ap (λ t. cond t a b) (any_right ts) ∙ by_value (val ts)
  where
    by_value : (n : ℕ) → cond (ltb 0 n) a b ≡ pick (eqb n 0) b a
    by_value zero = refl
    by_value (suc n) = ap (λ t. cond t a b) (lt-ltb 0 (suc n) (omega arith)) ∙ sym (ap (λ t. pick t b a) (ne_eqb (suc n) 0 (λ e. omega (arith, e))))

-- all bits are 1: the greatest number of the width
all_step : (x : Bool) (v p : ℕ) → 0 < p → (x && eqb v (p - 1)) ≡ eqb (bit x + 2 * v) (p * 2 - 1)
all_step true v p h = grind (arith, nat_tests)
all_step false v p h = sym (ne_eqb _ _ (λ e. omega (arith, e)))

pub all_right : (xs : List Bool) → all_bits xs ≡ eqb (val xs) (2 ^ length xs - 1)
all_right [] = refl
all_right (x ∷ xs) =
    ap (λ t. x && t) (all_right xs)
    ∙ (all_step x (val xs) (2 ^ length xs) (pow_pos (length xs)) ∙ ap (λ p. eqb (bit x + 2 * val xs) (p - 1)) (sym (pow-suc 2 (length xs))))

-- bit by bit
pub length_zip : (f : Bool → Bool → Bool) (xs ys : List Bool) → length xs ≡ length ys → length (zip_bits f xs ys) ≡ length xs
length_zip f [] ys e = refl
length_zip f (x ∷ xs) [] e = absurd (omega (arith, e))
length_zip f (x ∷ xs) (y ∷ ys) e = ap suc (length_zip f xs ys (omega (arith, e)))

pub zip_cond : (b : Bool) (xs ys : List Bool) → length xs ≡ length ys → zip_bits (cond b) xs ys ≡ cond b xs ys
zip_cond true [] [] e = refl
zip_cond false [] [] e = refl
zip_cond b [] (y ∷ ys) e = absurd (omega (arith, e))
zip_cond b (x ∷ xs) [] e = absurd (omega (arith, e))
zip_cond true (x ∷ xs) (y ∷ ys) e = ap (◌∷◌ x) (zip_cond true xs ys (omega (arith, e)))
zip_cond false (x ∷ xs) (y ∷ ys) e = ap (◌∷◌ y) (zip_cond false xs ys (omega (arith, e)))

-- a test as a word
pub length_flag : {A : Type 0} (z b : A) (xs : List A) → length (flag z b xs) ≡ length xs
length_flag z b [] = refl
length_flag z b (x ∷ xs) = ap suc (length_fill z xs)

pub val_flag : (b : Bool) (xs : List Bool) → 0 < length xs → val (flag false b xs) ≡ bit b
val_flag b [] h = absurd (omega arith)
val_flag b (x ∷ xs) h = omega (arith, val_zeros xs)
