-- The barrel moves a word by the whole count: each stage by its own part of it, and what reaches the width moves everything out.
use Rattle.std.proofs.Common.{◌≡◌, ℕ, suc, ◌+◌, ◌-◌, ◌*◌, ◌/◌, ◌%◌, ◌^◌, ◌≤◌, Bool, true, false, cond, ltb, List, [], ◌∷◌, length, sym, refl, ap, ◌∙◌, ap₂, add-mul, one-mul, mul-zero, mul-one, mul-add, le-mul_of_pos_right, div-one, mul_left_comm, arith}
use Rattle.circuit.specs.declared.shifting.Direction.{Direction}
use Rattle.circuit.specs.declared.shifting.Direction.TheVariants.{Left, Right}
use Rattle.std.proofs.lemmas.Bool.{ltb-true, ltb-false}
use Rattle.words.specs.Words.{pick, odd}
use Rattle.circuit.specs.Bits.{bit, val, zip_bits, fill, any_bits, top, top_of, moved, shift_bits}
use Rattle.circuit.proofs.Numbers.{odd_digit, div_digit, length_fill, val_zeros, val_ones}
use Rattle.circuit.proofs.Comparisons.{any_right, zip_cond}
use Rattle.circuit.proofs.Moving.{length_moved, moved_moved, moved_out, moved_none, val_down, val_down_ones, val_up}

module _ (direction : Direction) (b : Bool) (n : ℕ) where
  -- a stage, and the stages after it
  stage : (c : Bool) (k v : ℕ) (xs : List Bool) → moved direction b ((k + k) * v) (cond c (moved direction b k xs) xs) ≡ moved direction b (k * (bit c + 2 * v)) xs
  stage true k v xs = moved_moved direction b ((k + k) * v) k xs ∙ ap (λ j. moved direction b j xs) (omega (arith, add-mul k k v, mul-add k 1 (2 * v), mul_left_comm k 2 v, mul-one k))
  stage false k v xs = ap (λ j. moved direction b j xs) (omega (arith, add-mul k k v, mul-add k 0 (2 * v), mul_left_comm k 2 v, mul-zero k))

  length_stage : (c : Bool) (k : ℕ) (xs : List Bool) → length (cond c (moved direction b k xs) xs) ≡ length xs
  length_stage true k xs = length_moved direction b k xs
  length_stage false k xs = refl

  pub shift_moved : (cs : List Bool) (k : ℕ) (xs : List Bool) → length xs ≡ n → shift_bits direction b n k xs cs ≡ moved direction b (k * val cs) xs
  shift_moved [] k xs e = sym (ap (λ j. moved direction b j xs) (mul-zero k) ∙ moved_none direction b xs)
  shift_moved (c ∷ cs) k xs e = by_width (ltb k n) refl (shift_moved cs (k + k) (zip_bits (cond c) (moved direction b k xs) xs) (ap length chosen ∙ (length_stage c k xs ∙ e)))
    where
      chosen : zip_bits (cond c) (moved direction b k xs) xs ≡ cond c (moved direction b k xs) xs
      chosen = zip_cond c (moved direction b k xs) xs (length_moved direction b k xs)

      out : (t : Bool) → ltb 0 (val (c ∷ cs)) ≡ t → n ≤ k → cond t (fill b xs) xs ≡ moved direction b (k * val (c ∷ cs)) xs
      out true h l = sym (moved_out direction b (k * val (c ∷ cs)) xs (omega (arith, le-mul_of_pos_right k (ltb-true 0 (val (c ∷ cs)) h))))
      out false h l =
          let z : val (c ∷ cs) ≡ 0 = omega (arith, ltb-false 0 (val (c ∷ cs)) h) in
          sym (ap (λ j. moved direction b (k * j) xs) z ∙ (ap (λ j. moved direction b j xs) (mul-zero k) ∙ moved_none direction b xs))

      by_width : (t : Bool) → ltb k n ≡ t
          → shift_bits direction b n (k + k) (zip_bits (cond c) (moved direction b k xs) xs) cs ≡ moved direction b ((k + k) * val cs) (zip_bits (cond c) (moved direction b k xs) xs)
          → cond t (shift_bits direction b n (k + k) (zip_bits (cond c) (moved direction b k xs) xs) cs) (zip_bits (cond (any_bits (c ∷ cs) false)) (fill b xs) xs) ≡ moved direction b (k * val (c ∷ cs)) xs
      by_width true h ih = ih ∙ (ap (moved direction b ((k + k) * val cs)) chosen ∙ stage c k (val cs) xs)
      by_width false h ih =
          zip_cond (any_bits (c ∷ cs) false) (fill b xs) xs (length_fill b xs)
          ∙ (ap (λ t. cond t (fill b xs) xs) (any_right (c ∷ cs)) ∙ out (ltb 0 (val (c ∷ cs))) refl (ltb-false k n h))

pub length_shift : (direction : Direction) (b : Bool) (xs cs : List Bool) → length (shift_bits direction b (length xs) 1 xs cs) ≡ length xs
length_shift direction b xs cs = ap length (shift_moved direction b (length xs) cs 1 xs refl) ∙ length_moved direction b (1 * val cs) xs

-- by a count below the width, or by more
val_shift : (direction : Direction) (b : Bool) (xs cs : List Bool)
    → val (shift_bits direction b (length xs) 1 xs cs) ≡ pick (ltb (val cs) (length xs)) (val (moved direction b (val cs) xs)) (val (fill b xs))
val_shift direction b xs cs =
    ap val (shift_moved direction b (length xs) cs 1 xs refl ∙ ap (λ k. moved direction b k xs) (one-mul (val cs))) ∙ by_count (ltb (val cs) (length xs)) refl
  where
    by_count : (t : Bool) → ltb (val cs) (length xs) ≡ t → val (moved direction b (val cs) xs) ≡ pick t (val (moved direction b (val cs) xs)) (val (fill b xs))
    by_count true h = refl
    by_count false h = ap val (moved_out direction b (val cs) xs (ltb-false (val cs) (length xs) h))

pub shl_right : (xs cs : List Bool) → val (shift_bits Left false (length xs) 1 xs cs) ≡ pick (ltb (val cs) (length xs)) (val xs * 2 ^ val cs % 2 ^ length xs) 0
shl_right xs cs = val_shift Left false xs cs ∙ ap₂ (pick (ltb (val cs) (length xs))) (val_up (val cs) xs) (val_zeros xs)

pub lshr_right : (xs cs : List Bool) → val (shift_bits Right false (length xs) 1 xs cs) ≡ pick (ltb (val cs) (length xs)) (val xs / 2 ^ val cs) 0
lshr_right xs cs = val_shift Right false xs cs ∙ ap₂ (pick (ltb (val cs) (length xs))) (val_down (val cs) xs) (val_zeros xs)

-- the top bit
top_digit : (x : Bool) (xs : List Bool) → top x xs ≡ odd (val (x ∷ xs) / 2 ^ length xs)
top_digit x [] = sym (ap odd (div-one (bit x + 2 * 0)) ∙ odd_digit x 0)
top_digit x (y ∷ ys) = top_digit y ys ∙ sym (ap odd (div_digit (length ys) x (val (y ∷ ys))))

top_right : (xs : List Bool) → top_of false xs ≡ odd (val xs / 2 ^ (length xs - 1))
top_right [] = refl
top_right (x ∷ xs) =
    let e : length xs ≡ suc (length xs) - 1 = omega arith in
    top_digit x xs ∙ ap (λ k. odd (val (x ∷ xs) / 2 ^ k)) e

-- a word x of w bits with the sign t, moved to the right by y places, with its sign coming in
abbrev pub signed : Bool → ℕ → ℕ → ℕ → ℕ
signed t w x y = pick t (pick (ltb y w) (2 ^ w - 1 - (2 ^ w - 1 - x) / 2 ^ y) (2 ^ w - 1)) (pick (ltb y w) (x / 2 ^ y) 0)

pub ashr_right : (xs cs : List Bool) → val (shift_bits Right (top_of false xs) (length xs) 1 xs cs) ≡ signed (odd (val xs / 2 ^ (length xs - 1))) (length xs) (val xs) (val cs)
ashr_right xs cs = by_sign (top_of false xs) ∙ ap (λ t. signed t (length xs) (val xs) (val cs)) (top_right xs)
  where
    ones : val (fill true xs) ≡ 2 ^ length xs - 1
    ones = omega (arith, val_ones xs)

    by_sign : (t : Bool) → val (shift_bits Right t (length xs) 1 xs cs) ≡ signed t (length xs) (val xs) (val cs)
    by_sign true = val_shift Right true xs cs ∙ ap₂ (pick (ltb (val cs) (length xs))) (val_down_ones (val cs) xs) ones
    by_sign false = lshr_right xs cs
