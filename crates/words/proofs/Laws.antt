-- Laws of words that hold at every width.
use Rattle.std.proofs.Common.{◌≡◌, ℕ, zero, suc, ◌+◌, ◌-◌, ◌*◌, ◌/◌, ◌%◌, ◌^◌, ◌<◌, ◌≤◌, min, max, Bool, true, false, ◌&&◌, ◌||◌, eqb, ltb, refl, ap, ◌∙◌, subst, ap₂, mod-lt, suc-mul, pow-suc, div-le_self, arith, lit<, lit≤, pow_pos, pow-add}
use native.Mathlib.Nat.{mod-le, mul-add-mod_self_right}
use lib.Arith.{lt-one}
use lib.Bits.{bit_and, bit_or, bit_xor, and_step, or_step, xor_step, differ}
use lib.Pow.{pow-lt, mod-mod-pow, ones_lt, ones_sub-lt}
use Rattle.words.specs.declared.BinaryOp.{BinaryOp}
use Rattle.words.specs.declared.BinaryOp.TheVariants.{Add, Sub, Mul, Udiv, Urem, And, Or, Xor, Shl, Lshr, Ashr, Comp, Ult, Slt}
use Rattle.words.specs.declared.Width.{Width}
use Rattle.words.specs.declared.Width.TheVariants.{W8, W16, W32, W64}
use Rattle.words.specs.Words.{bits, pick, odd, bitwise, top, xor, do2, moved}

pub bits_le : (v : Width) → bits v ≤ 64
bits_le W8 = lit≤ tt
bits_le W16 = lit≤ tt
bits_le W32 = lit≤ tt
bits_le W64 = lit≤ tt

pub bits_pos : (v : Width) → 0 < bits v
bits_pos W8 = lit< tt
bits_pos W16 = lit< tt
bits_pos W32 = lit< tt
bits_pos W64 = lit< tt

-- a number that wrapped at 64 bits, cut to a width
pub cut_law : (w n : ℕ) → w ≤ 64 → n % 2 ^ 64 % 2 ^ w ≡ n % 2 ^ w
cut_law w n h =
    let e : (64 - w) + w ≡ 64 = omega arith in
    subst (λ k. n % 2 ^ k % 2 ^ w ≡ n % 2 ^ w) e (mod-mod-pow n (64 - w) w)

-- a difference that wrapped at 64 bits, cut to a width
pub cut_difference : (w x y : ℕ) → w ≤ 64 → y < 2 ^ w → (x + (2 ^ 64 - y)) % 2 ^ 64 % 2 ^ w ≡ (x + 2 ^ w - y) % 2 ^ w
cut_difference w x y h l =
    let q : ℕ = 2 ^ (64 - w) in
    let e : (64 - w) + w ≡ 64 = omega arith in
    let p : 2 ^ 64 ≡ q * 2 ^ w = subst (λ k. 2 ^ k ≡ 2 ^ (64 - w) * 2 ^ w) e (pow-add 2 (64 - w) w) in
    let s : suc (q - 1) ≡ q = omega (arith, pow_pos (64 - w)) in
    let t : x + (2 ^ 64 - y) ≡ (q - 1) * 2 ^ w + (x + 2 ^ w - y) = omega (arith, p, suc-mul (q - 1) (2 ^ w), ap (λ k. k * 2 ^ w) s) in
    cut_law w (x + (2 ^ 64 - y)) h ∙ (ap (λ k. k % 2 ^ w) t ∙ mul-add-mod_self_right (q - 1) (2 ^ w) (x + 2 ^ w - y))

-- what holds either way of a choice holds of it
pick_both : (P : ℕ → Type 0) (b : Bool) (x y : ℕ) → P x → P y → P (pick b x y)
pick_both P true x y p q = p
pick_both P false x y p q = q

-- an operation on digits is one on truth values, if it is so at the four pairs of digits
digit : (f : Bool → Bool → Bool) (g : ℕ → ℕ → ℕ)
    → g 0 0 ≡ pick (f false false) 1 0 → g 0 1 ≡ pick (f false true) 1 0
    → g 1 0 ≡ pick (f true false) 1 0 → g 1 1 ≡ pick (f true true) 1 0
    → (x y : ℕ) → x < 2 → y < 2 → g x y ≡ pick (f (eqb x 1) (eqb y 1)) 1 0
digit f g a b c d zero zero hx hy = a
digit f g a b c d zero (suc zero) hx hy = b
digit f g a b c d (suc zero) zero hx hy = c
digit f g a b c d (suc zero) (suc zero) hx hy = d
digit f g a b c d zero (suc (suc y)) hx hy = absurd (omega arith)
digit f g a b c d (suc zero) (suc (suc y)) hx hy = absurd (omega arith)
digit f g a b c d (suc (suc x)) y hx hy = absurd (omega arith)

-- an operation that goes digit by digit is the bitwise one, over any width that holds its operands
module _ (f : Bool → Bool → Bool) (op g : ℕ → ℕ → ℕ)
    (none : op 0 0 ≡ 0)
    (step : (a b : ℕ) → op a b ≡ op (a / 2) (b / 2) * 2 + g (a % 2) (b % 2))
    (one : (x y : ℕ) → x < 2 → y < 2 → g x y ≡ pick (f (eqb x 1) (eqb y 1)) 1 0) where
  bitwise_is : (w x y : ℕ) → x < 2 ^ w → y < 2 ^ w → op x y ≡ bitwise f w x y
  bitwise_is zero x y hx hy = ap₂ op (lt-one hx) (lt-one hy) ∙ none
  bitwise_is (suc w) x y hx hy =
      let p = pow-suc 2 w in
      let ih = bitwise_is w (x / 2) (y / 2) (omega arith) (omega arith) in
      let d = one (x % 2) (y % 2) (omega arith) (omega arith) in
      omega (arith, step x y, ih, d)

pub bitwise_and : (w x y : ℕ) → x < 2 ^ w → y < 2 ^ w → bit_and x y ≡ bitwise ◌&&◌ w x y
bitwise_and = bitwise_is ◌&&◌ bit_and min refl and_step (digit ◌&&◌ min refl refl refl refl)

pub bitwise_or : (w x y : ℕ) → x < 2 ^ w → y < 2 ^ w → bit_or x y ≡ bitwise ◌||◌ w x y
bitwise_or = bitwise_is ◌||◌ bit_or max refl or_step (digit ◌||◌ max refl refl refl refl)

pub bitwise_xor : (w x y : ℕ) → x < 2 ^ w → y < 2 ^ w → bit_xor x y ≡ bitwise xor w x y
bitwise_xor = bitwise_is xor bit_xor differ refl xor_step (digit xor differ refl refl refl refl)

pub bitwise_word : (f : Bool → Bool → Bool) (w x y : ℕ) → bitwise f w x y < 2 ^ w
bitwise_word f zero x y = lit< tt
bitwise_word f (suc w) x y =
    let p = pow-suc 2 w in
    let ih = bitwise_word f w (x / 2) (y / 2) in
    let d : pick (f (odd x) (odd y)) 1 0 < 2 = pick_both (λ n. n < 2) (f (odd x) (odd y)) 1 0 (lit< tt) (lit< tt) in
    omega arith

-- the words 1 and 0
flag_word : (w : ℕ) (b : Bool) → 0 < w → pick b 1 0 < 2 ^ w
flag_word w b h = pick_both (λ n. n < 2 ^ w) b 1 0 (pow-lt h) (pow_pos w)

shifted_word : (w x y : ℕ) → x < 2 ^ w → x / 2 ^ y < 2 ^ w
shifted_word w x y h = omega (arith, div-le_self x (2 ^ y))

pub do2_word : (w : ℕ) (o : BinaryOp) (x y : ℕ) → 0 < w → x < 2 ^ w → y < 2 ^ w → do2 w o x y < 2 ^ w
do2_word w Add x y p hx hy = mod-lt (x + y) (pow_pos w)
do2_word w Sub x y p hx hy = mod-lt (x + 2 ^ w - y) (pow_pos w)
do2_word w Mul x y p hx hy = mod-lt (x * y) (pow_pos w)
do2_word w Udiv x y p hx hy = pick_both (λ n. n < 2 ^ w) (eqb y 0) _ _ (ones_lt w) (omega (arith, div-le_self x y))
do2_word w Urem x y p hx hy = pick_both (λ n. n < 2 ^ w) (eqb y 0) _ _ hx (omega (arith, mod-le x y))
do2_word w And x y p hx hy = bitwise_word ◌&&◌ w x y
do2_word w Or x y p hx hy = bitwise_word ◌||◌ w x y
do2_word w Xor x y p hx hy = bitwise_word xor w x y
do2_word w Shl x y p hx hy = pick_both (λ n. n < 2 ^ w) (ltb y w) _ _ (mod-lt (x * 2 ^ y) (pow_pos w)) (pow_pos w)
do2_word w Lshr x y p hx hy = pick_both (λ n. n < 2 ^ w) (ltb y w) _ _ (shifted_word w x y hx) (pow_pos w)
do2_word w Ashr x y p hx hy =
    pick_both (λ n. n < 2 ^ w) (top w x) _ _
    (pick_both (λ n. n < 2 ^ w) (ltb y w) _ _ (ones_sub-lt w ((2 ^ w - 1 - x) / 2 ^ y)) (ones_lt w))
    (pick_both (λ n. n < 2 ^ w) (ltb y w) _ _ (shifted_word w x y hx) (pow_pos w))
do2_word w Comp x y p hx hy = flag_word w (eqb x y) p
do2_word w Ult x y p hx hy = flag_word w (ltb x y) p
do2_word w Slt x y p hx hy = flag_word w (ltb (moved w x) (moved w y)) p
