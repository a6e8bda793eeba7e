-- A word moved by k places at once: moves add up, a move by the whole length leaves only what comes in, and the number that a moved word is.
use Rattle.std.proofs.Common.{◌≡◌, ℕ, zero, suc, ◌+◌, ◌-◌, ◌*◌, ◌/◌, ◌%◌, ◌^◌, ◌<◌, ◌≤◌, Bool, true, false, cond, not, List, [], ◌∷◌, length, get_or, sym, refl, ap, ◌∙◌, ap₂, inl, inr, add-zero, add-suc, mod-eq_of_lt, mul_assoc, pow-suc, zero-add, mul-one, div-le_self, div-one, arith}
use Rattle.circuit.specs.declared.shifting.Direction.{Direction}
use Rattle.circuit.specs.declared.shifting.Direction.TheVariants.{Left, Right}
use lib.Dec.{leb-suc-suc}
use native.Mathlib.Nat.{zero-div, zero-mod, mod-one, suc-sub-suc}
use Rattle.std.proofs.lemmas.List.{ext_get_or, get_or_past}
use Rattle.std.proofs.lemmas.Bool.{cases_lt, lt-ltb, le-ltb}
use Rattle.circuit.specs.Bits.{bit, val, not_bits, fill, up_one, down_one, table, moved}
use Rattle.circuit.proofs.Numbers.{bit_lt, div_digit, mod_digit, val_lt, val_not, length_not, length_fill}

module _ {A : Type 0} where
  length_table : (f : ℕ → A) (n i : ℕ) → length (table f n i) ≡ n
  length_table f zero i = refl
  length_table f (suc n) i = ap suc (length_table f n (suc i))

  get_or_table : (f : ℕ → A) (n i k : ℕ) (d : A) → k < n → get_or (table f n i) k d ≡ f (i + k)
  get_or_table f zero i k d h = absurd (omega arith)
  get_or_table f (suc n) i zero d h = ap f (omega arith)
  get_or_table f (suc n) i (suc k) d h = get_or_table f n (suc i) k d (omega arith) ∙ ap f (omega arith)

  table_next : (f : ℕ → A) (n i : ℕ) → table f n (suc i) ≡ table (λ j. f (suc j)) n i
  table_next f zero i = refl
  table_next f (suc n) i = ap (λ t. f (suc i) ∷ t) (table_next f n (suc i))

  table_from : (f : ℕ → A) (n i : ℕ) → table (λ j. f (j + i)) n 0 ≡ table f n i
  table_from f n zero = ap (λ g. table g n 0) (λ t j. f (add-zero j t))
  table_from f n (suc i) = ap (λ g. table g n 0) (λ t j. f (add-suc j i t)) ∙ (table_from (λ j. f (suc j)) n i ∙ sym (table_next f n i))

  -- the bit that comes to a place
  abbrev place : Direction → A → ℕ → List A → ℕ → A
  place Left b k xs i = up_one b k xs i
  place Right b k xs i = down_one b k xs i

  pub up_below : (b : A) (k i : ℕ) (xs : List A) → i < k → up_one b k xs i ≡ b
  up_below b k i xs h = ap (λ t. cond t b (get_or xs (i - k) b)) (lt-ltb i k h)

  pub up_from : (b : A) (k i : ℕ) (xs : List A) → k ≤ i → up_one b k xs i ≡ get_or xs (i - k) b
  up_from b k i xs h = ap (λ t. cond t b (get_or xs (i - k) b)) (le-ltb i k h)

  pub length_moved : (direction : Direction) (b : A) (k : ℕ) (xs : List A) → length (moved direction b k xs) ≡ length xs
  length_moved Left b k xs = length_table (up_one b k xs) (length xs) 0
  length_moved Right b k xs = length_table (down_one b k xs) (length xs) 0

  pub get_d_moved : (direction : Direction) (b : A) (k : ℕ) (xs : List A) (i : ℕ) → i < length xs → get_or (moved direction b k xs) i b ≡ place direction b k xs i
  get_d_moved Left b k xs i h = get_or_table (up_one b k xs) (length xs) 0 i b h ∙ ap (up_one b k xs) (zero-add i)
  get_d_moved Right b k xs i h = get_or_table (down_one b k xs) (length xs) 0 i b h ∙ ap (down_one b k xs) (zero-add i)

  -- moves add up
  place_place : (direction : Direction) (b : A) (j k : ℕ) (xs : List A) (i : ℕ) → i < length xs → place direction b j (moved direction b k xs) i ≡ place direction b (j + k) xs i
  place_place Left b j k xs i h = elim (cases_lt i j) [
    | inl l ↦ up_below b j i (moved Left b k xs) l ∙ sym (up_below b (j + k) i xs (omega arith))
    | inr g ↦ up_from b j i (moved Left b k xs) g ∙ (get_d_moved Left b k xs (i - j) (omega arith) ∙ rest g)
  ]
    where
      rest : j ≤ i → up_one b k xs (i - j) ≡ up_one b (j + k) xs i
      rest g = elim (cases_lt i (j + k)) [
        | inl l ↦ up_below b k (i - j) xs (omega arith) ∙ sym (up_below b (j + k) i xs l)
        | inr m ↦ up_from b k (i - j) xs (omega arith) ∙ (ap (λ n. get_or xs n b) (omega arith) ∙ sym (up_from b (j + k) i xs m))
      ]
  place_place Right b j k xs i h = elim (cases_lt (i + j) (length xs)) [
    | inl l ↦ get_d_moved Right b k xs (i + j) l ∙ ap (λ n. get_or xs n b) (omega arith)
    | inr g ↦ get_or_past (moved Right b k xs) (i + j) b (omega (arith, length_moved Right b k xs)) ∙ sym (get_or_past xs (i + (j + k)) b (omega arith))
  ]

  pub moved_moved : (direction : Direction) (b : A) (j k : ℕ) (xs : List A) → moved direction b j (moved direction b k xs) ≡ moved direction b (j + k) xs
  moved_moved direction b j k xs =
      let long = length_moved direction b k xs in
      let twice = length_moved direction b j (moved direction b k xs) in
      ext_get_or b _ _ (twice ∙ (long ∙ sym (length_moved direction b (j + k) xs)))
      (λ i h.
      get_d_moved direction b j (moved direction b k xs) i (omega arith)
      ∙ (place_place direction b j k xs i (omega arith) ∙ sym (get_d_moved direction b (j + k) xs i (omega arith))))

  get_or_fill : (b : A) (xs : List A) (i : ℕ) → get_or (fill b xs) i b ≡ b
  get_or_fill b [] i = refl
  get_or_fill b (x ∷ xs) zero = refl
  get_or_fill b (x ∷ xs) (suc i) = get_or_fill b xs i

  place_out : (direction : Direction) (b : A) (k : ℕ) (xs : List A) (i : ℕ) → i < length xs → length xs ≤ k → place direction b k xs i ≡ b
  place_out Left b k xs i h l = up_below b k i xs (omega arith)
  place_out Right b k xs i h l = get_or_past xs (i + k) b (omega arith)

  pub moved_out : (direction : Direction) (b : A) (k : ℕ) (xs : List A) → length xs ≤ k → moved direction b k xs ≡ fill b xs
  moved_out direction b k xs l =
      let long = length_moved direction b k xs in
      ext_get_or b _ _ (long ∙ sym (length_fill b xs))
      (λ i h. get_d_moved direction b k xs i (omega arith) ∙ (place_out direction b k xs i (omega arith) l ∙ sym (get_or_fill b xs i)))

  place_none : (direction : Direction) (b : A) (xs : List A) (i : ℕ) → place direction b 0 xs i ≡ get_or xs i b
  place_none Left b xs i = up_from b 0 i xs (omega arith) ∙ ap (λ n. get_or xs n b) (omega arith)
  place_none Right b xs i = ap (λ n. get_or xs n b) (add-zero i)

  pub moved_none : (direction : Direction) (b : A) (xs : List A) → moved direction b 0 xs ≡ xs
  moved_none direction b xs =
      let long = length_moved direction b 0 xs in
      ext_get_or b _ _ long (λ i h. get_d_moved direction b 0 xs i (omega arith) ∙ place_none direction b xs i)

-- n bits from place i on
table_zeros : (n i : ℕ) → val (table (λ j. false) n i) ≡ 0
table_zeros zero i = refl
table_zeros (suc n) i = omega (arith, table_zeros n (suc i))

val_part : (xs : List Bool) (n i : ℕ) → val (table (λ j. get_or xs j false) n i) ≡ val xs / 2 ^ i % 2 ^ n
val_part [] n i = table_zeros n i ∙ sym (ap (λ k. k % 2 ^ n) (zero-div (2 ^ i)) ∙ zero-mod (2 ^ n))
val_part (x ∷ xs) zero i = sym (mod-one _)
val_part (x ∷ xs) (suc n) zero =
    let e : val (table (λ j. get_or (x ∷ xs) j false) n 1) ≡ val xs % 2 ^ n =
    ap val (table_next (λ j. get_or (x ∷ xs) j false) n 0) ∙ (val_part xs n 0 ∙ ap (λ k. k % 2 ^ n) (div-one (val xs))) in
    ap (λ k. bit x + 2 * k) e ∙ sym (ap (λ k. k % 2 ^ suc n) (div-one (bit x + 2 * val xs)) ∙ mod_digit n (bit x) (val xs) (bit_lt x))
val_part (x ∷ xs) (suc n) (suc i) =
    ap val (table_next (λ j. get_or (x ∷ xs) j false) (suc n) i)
    ∙ (val_part xs (suc n) i ∙ sym (ap (λ k. k % 2 ^ suc n) (div_digit i x (val xs))))

-- to the right, with 0 coming in
pub val_down : (k : ℕ) (xs : List Bool) → val (moved Right false k xs) ≡ val xs / 2 ^ k
val_down k xs =
    ap val (table_from (λ j. get_or xs j false) (length xs) k)
    ∙ (val_part xs (length xs) k ∙ mod-eq_of_lt (omega (arith, val_lt xs, div-le_self (val xs) (2 ^ k))))

-- to the right, with 1 coming in: the complement of what the complement gives
not_table : (f : ℕ → Bool) (n i : ℕ) → not_bits (table f n i) ≡ table (λ j. not (f j)) n i
not_table f zero i = refl
not_table f (suc n) i = ap (λ t. not (f i) ∷ t) (not_table f n (suc i))

not_get_or : (xs : List Bool) (i : ℕ) → not (get_or (not_bits xs) i false) ≡ get_or xs i true
not_get_or [] i = refl
not_get_or (true ∷ xs) zero = refl
not_get_or (false ∷ xs) zero = refl
not_get_or (x ∷ xs) (suc i) = not_get_or xs i

not_down : (k : ℕ) (xs : List Bool) → not_bits (moved Right false k (not_bits xs)) ≡ moved Right true k xs
not_down k xs =
    not_table (down_one false k (not_bits xs)) (length (not_bits xs)) 0
    ∙ ap₂ (λ f n. table f n 0) (λ t i. not_get_or xs (i + k) t) (length_not xs)

pub val_down_ones : (k : ℕ) (xs : List Bool) → val (moved Right true k xs) ≡ 2 ^ length xs - 1 - (2 ^ length xs - 1 - val xs) / 2 ^ k
val_down_ones k xs =
    let c : val (not_bits xs) ≡ 2 ^ length xs - 1 - val xs = omega (arith, val_not xs) in
    let d = val_down k (not_bits xs) ∙ ap (λ v. v / 2 ^ k) c in
    let n = val_not (moved Right false k (not_bits xs)) in
    let l : 2 ^ length (moved Right false k (not_bits xs)) ≡ 2 ^ length xs = ap (λ j. 2 ^ j) (length_moved Right false k (not_bits xs) ∙ length_not xs) in
    sym (ap val (not_down k xs)) ∙ omega arith

-- to the left, with 0 coming in
up_next : (k i : ℕ) (xs : List Bool) → up_one false (suc k) xs (suc i) ≡ up_one false k xs i
up_next k i xs = ap₂ (λ t j. cond t false (get_or xs j false)) (leb-suc-suc (suc i) k) (suc-sub-suc i k)

val_table_up : (n k : ℕ) (xs : List Bool) → val (table (up_one false k xs) n 0) ≡ val xs * 2 ^ k % 2 ^ n
val_table_up zero k xs = sym (mod-one _)
val_table_up (suc n) zero xs =
    ap (λ f. val (table f (suc n) 0)) (λ t i. place_none Left false xs i t)
    ∙ (val_part xs (suc n) 0 ∙ ap (λ v. v % 2 ^ suc n) (div-one (val xs) ∙ sym (mul-one (val xs))))
val_table_up (suc n) (suc k) xs =
    let e : val (table (up_one false (suc k) xs) n 1) ≡ val xs * 2 ^ k % 2 ^ n =
    ap val (table_next (up_one false (suc k) xs) n 0 ∙ ap (λ f. table f n 0) (λ t i. up_next k i xs t)) ∙ val_table_up n k xs in
    let p : val xs * 2 ^ suc k ≡ 0 + 2 * (val xs * 2 ^ k) = omega (arith, ap (λ j. val xs * j) (pow-suc 2 k), mul_assoc (val xs) (2 ^ k) 2) in
    let z : bit (up_one false (suc k) xs 0) ≡ 0 = ap bit (up_below false (suc k) 0 xs (omega arith)) in
    omega (arith, e, z, ap (λ j. j % 2 ^ suc n) p, mod_digit n 0 (val xs * 2 ^ k) (omega arith))

pub val_up : (k : ℕ) (xs : List Bool) → val (moved Left false k xs) ≡ val xs * 2 ^ k % 2 ^ length xs
val_up k xs = val_table_up (length xs) k xs
