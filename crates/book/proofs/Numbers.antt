-- Decimal numbers: a number's digits, and the number that digits write.
use Rattle.std.proofs.Common.{◌≡◌, ℕ, zero, suc, ◌+◌, ◌-◌, ◌*◌, ◌/◌, ◌%◌, ◌^◌, ◌<◌, ◌≤◌, List, [], ◌∷◌, ◌++◌, length, get_or, take, drop, sym, refl, ap, ◌∙◌, subst, inl, inr, append_assoc, append-nil, pow-suc, arith}
use Rattle.std.proofs.lemmas.List.{take_more, take-append-drop}
use Rattle.std.proofs.lemmas.Bool.{cases_lt, lt-ltb, le-ltb, cases_eq}
use Rattle.book.specs.Text.{digits, decimal}

-- the number that digits write, after digits that write n
abbrev pub value_from : ℕ → List ℕ → ℕ
value_from n [] = n
value_from n (c ∷ cs) = value_from (n * 10 + (c - 48)) cs

-- each character is a digit
abbrev pub Digits : List ℕ → Type 0
Digits [] = Unit {0}
Digits (c ∷ cs) = (48 ≤ c) × (c ≤ 57) × Digits cs

-- one step of writing a number: its last digit, and whether there are more
pub digits_last : (d n : ℕ) (ds : List ℕ) → n < 10 → digits (suc d) n ds ≡ (48 + n) ∷ ds
digits_last d n ds h =
    let e : n % 10 ≡ n = omega arith in
    rw (lt-ltb n 10 h, e)

pub digits_more : (d n : ℕ) (ds : List ℕ) → 10 ≤ n → digits (suc d) n ds ≡ digits d (n / 10) ((48 + n % 10) ∷ ds)
digits_more d n ds h = rw (le-ltb n 10 h)

tenth : (d n : ℕ) → n < 10 ^ suc d → n / 10 < 10 ^ d
tenth d n h = let e = pow-suc 10 d in omega arith

-- what is written is put before what is there
pub digits_before : (d n : ℕ) (ds : List ℕ) → digits d n ds ≡ digits d n [] ++ ds
digits_before zero n ds = refl
digits_before (suc d) n ds =
    elim (cases_lt n 10) [
      | inl h ↦ rw (digits_last d n ds h, digits_last d n [] h)
      | inr h ↦ rw (digits_more d n ds h, digits_more d n [] h, digits_before d (n / 10) ((48 + n % 10) ∷ ds), digits_before d (n / 10) ((48 + n % 10) ∷ [])) (sym (append_assoc (digits d (n / 10) []) _ ds))
    ]

-- more room for digits than are needed changes nothing
pub digits_room : (d n : ℕ) (ds : List ℕ) → n < 10 ^ suc d → digits (suc d) n ds ≡ digits (suc (suc d)) n ds
digits_room zero n ds h =
    let p = pow-suc 10 0 in
    let lt : n < 10 = omega arith in
    digits_last zero n ds lt ∙ sym (digits_last 1 n ds lt)
digits_room (suc d) n ds h =
    elim (cases_lt n 10) [
      | inl lt ↦ digits_last (suc d) n ds lt ∙ sym (digits_last (suc (suc d)) n ds lt)
      | inr ge ↦ digits_more (suc d) n ds ge ∙ digits_room d (n / 10) ((48 + n % 10) ∷ ds) (tenth (suc d) n h) ∙ sym (digits_more (suc (suc d)) n ds ge)
    ]

-- one more digit at the end
pub decimal_more : (n x : ℕ) → 0 < n → x < 10 → n * 10 + x < 10 ^ 20 → decimal (n * 10 + x) ≡ decimal n ++ ((48 + x) ∷ [])
unfolding decimal
decimal_more n x pos small h =
    let q : (n * 10 + x) / 10 ≡ n = omega arith in
    let r : (n * 10 + x) % 10 ≡ x = omega arith in
    let below : n < 10 ^ 19 = omega arith in
    digits_more 19 (n * 10 + x) [] (omega arith)
    ∙ ap (λ m. digits 19 m ((48 + (n * 10 + x) % 10) ∷ [])) q
    ∙ ap (λ m. digits 19 n ((48 + m) ∷ [])) r
    ∙ digits_before 19 n ((48 + x) ∷ [])
    ∙ ap (λ ds. ds ++ ((48 + x) ∷ [])) (digits_room 18 n [] below)

-- a number has a digit, digits only, and a 0 in front only if it is 0
digits_longer : (d n c : ℕ) (ds : List ℕ) → 0 < length (digits d n (c ∷ ds))
digits_longer zero n c ds = omega arith
digits_longer (suc d) n c ds =
    elim (cases_lt n 10) [
      | inl h ↦ rw (digits_last d n (c ∷ ds) h) (omega arith)
      | inr h ↦ rw (digits_more d n (c ∷ ds) h) (digits_longer d (n / 10) (48 + n % 10) (c ∷ ds))
    ]

pub digits_nonempty : (d n : ℕ) (ds : List ℕ) → 0 < length (digits (suc d) n ds)
digits_nonempty d n ds =
    elim (cases_lt n 10) [
      | inl h ↦ rw (digits_last d n ds h) (omega arith)
      | inr h ↦ rw (digits_more d n ds h) (digits_longer d (n / 10) (48 + n % 10) ds)
    ]

pub digits_all : (d n : ℕ) (ds : List ℕ) → Digits ds → Digits (digits d n ds)
digits_all zero n ds h = h
digits_all (suc d) n ds h =
    elim (cases_lt n 10) [
      | inl lt ↦ rw (digits_last d n ds lt) (omega arith, omega arith, h)
      | inr ge ↦ rw (digits_more d n ds ge) (digits_all d (n / 10) ((48 + n % 10) ∷ ds) (omega arith, omega arith, h))
    ]

pub digits_head : (d n : ℕ) (ds : List ℕ) → 0 < n → n < 10 ^ d → get_or (digits d n ds) 0 0 ≡ 48 → ⊥
digits_head zero n ds pos h e = omega arith
digits_head (suc d) n ds pos h e =
    elim (cases_lt n 10) [
      | inl lt ↦ let f : 48 + n ≡ 48 = rw (digits_last d n ds lt) at e in omega arith
      | inr ge ↦ digits_head d (n / 10) ((48 + n % 10) ∷ ds) (omega arith) (tenth d n h) (rw (digits_more d n ds ge) at e)
    ]

-- a number's digits write it
pub value_digits : (d n : ℕ) (ds : List ℕ) → n < 10 ^ suc d → value_from 0 (digits (suc d) n ds) ≡ value_from n ds
value_digits zero n ds h =
    let p = pow-suc 10 0 in
    let lt : n < 10 = omega arith in
    let e : 0 * 10 + (48 + n - 48) ≡ n = omega arith in
    ap (value_from 0) (digits_last zero n ds lt) ∙ ap (λ m. value_from m ds) e
value_digits (suc d) n ds h =
    elim (cases_lt n 10) [
      | inl lt ↦
          let e : 0 * 10 + (48 + n - 48) ≡ n = omega arith in
          ap (value_from 0) (digits_last (suc d) n ds lt) ∙ ap (λ m. value_from m ds) e
      | inr ge ↦
          let e : n / 10 * 10 + (48 + n % 10 - 48) ≡ n = omega arith in
          ap (value_from 0) (digits_more (suc d) n ds ge)
          ∙ value_digits d (n / 10) ((48 + n % 10) ∷ ds) (tenth (suc d) n h)
          ∙ ap (λ m. value_from m ds) e
    ]

pub value_from_least : (n : ℕ) (cs : List ℕ) → n ≤ value_from n cs
value_from_least n [] = omega arith
value_from_least n (c ∷ cs) = let h = value_from_least (n * 10 + (c - 48)) cs in omega arith

pub value_from_append : (n : ℕ) (xs ys : List ℕ) → value_from n (xs ++ ys) ≡ value_from (value_from n xs) ys
value_from_append n [] ys = refl
value_from_append n (c ∷ xs) ys = value_from_append (n * 10 + (c - 48)) xs ys

pub digits_append : (xs ys : List ℕ) → Digits xs → Digits ys → Digits (xs ++ ys)
digits_append [] ys h k = k
digits_append (c ∷ xs) ys h k = (h.0, h.1, digits_append xs ys h.2 k)

-- digits with no 0 in front are the writing of the number that they write
pub decimal_from : (n : ℕ) (cs : List ℕ) → 0 < n → Digits cs → value_from n cs < 10 ^ 20 → decimal (value_from n cs) ≡ decimal n ++ cs
decimal_from n [] pos h lt = sym (append-nil (decimal n))
decimal_from n (c ∷ cs) pos h lt =
    let least = value_from_least (n * 10 + (c - 48)) cs in
    let lo = h.0 in
    let hi = h.1 in
    let e : 48 + (c - 48) ≡ c = omega arith in
    decimal_from (n * 10 + (c - 48)) cs (omega arith) h.2 lt
    ∙ ap (λ ds. ds ++ cs) (decimal_more n (c - 48) pos (omega arith) (omega arith))
    ∙ append_assoc (decimal n) _ cs
    ∙ ap (λ x. decimal n ++ (x ∷ cs)) e

-- the same of the whole number
pub value_decimal : (n : ℕ) → n < 10 ^ 20 → value_from 0 (decimal n) ≡ n
unfolding decimal
value_decimal n h = value_digits 19 n [] h

pub decimal_all : (n : ℕ) → Digits (decimal n)
unfolding decimal
decimal_all n = digits_all 20 n [] tt

pub decimal_nonempty : (n : ℕ) → 0 < length (decimal n)
unfolding decimal
decimal_nonempty n = digits_nonempty 19 n []

pub decimal_head : (n : ℕ) → 0 < n → n < 10 ^ 20 → get_or (decimal n) 0 0 ≡ 48 → ⊥
unfolding decimal
decimal_head n pos h = digits_head 20 n [] pos h

pub decimal_zero : decimal 0 ≡ 48 ∷ []
unfolding decimal
decimal_zero = refl

pub decimal_digit : (n : ℕ) → n < 10 → decimal n ≡ (48 + n) ∷ []
unfolding decimal
decimal_digit n h = digits_last 19 n [] h

-- digits are the writing of the number that they write, if a 0 is in front only alone
pub decimal_value : (w : List ℕ) → 0 < length w → Digits w → (1 < length w → get_or w 0 0 ≡ 48 → ⊥) → value_from 0 w < 10 ^ 20 → decimal (value_from 0 w) ≡ w
decimal_value [] some all front lt = absurd (omega arith)
decimal_value (c ∷ []) some all front lt =
    let lo = all.0 in
    let hi = all.1 in
    let e : 0 * 10 + (c - 48) ≡ c - 48 = omega arith in
    let f : 48 + (c - 48) ≡ c = omega arith in
    ap decimal e ∙ decimal_digit (c - 48) (omega arith) ∙ ap (λ x. x ∷ []) f
decimal_value (c ∷ d ∷ cs) some all front lt =
    let lo = all.0 in
    let hi = all.1 in
    let ne : c ≡ 48 → ⊥ = front (omega arith) in
    let e : 0 * 10 + (c - 48) ≡ c - 48 = omega arith in
    let f : 48 + (c - 48) ≡ c = omega arith in
    let pos : 0 < c - 48 = omega arith in
    let lt' = subst (λ n. value_from n (d ∷ cs) < 10 ^ 20) e lt in
    ap (λ n. decimal (value_from n (d ∷ cs))) e
    ∙ decimal_from (c - 48) (d ∷ cs) pos all.2 lt'
    ∙ ap (λ ds. ds ++ (d ∷ cs)) (decimal_digit (c - 48) (omega arith))
    ∙ ap (λ x. x ∷ d ∷ cs) f

-- ---- reading a word from its front

digit_at : (w : List ℕ) (i : ℕ) → i < length w → Digits w → (48 ≤ get_or w i 0) × (get_or w i 0 ≤ 57)
digit_at [] i lt all = absurd (omega arith)
digit_at (c ∷ cs) zero lt all = (all.0, all.1)
digit_at (c ∷ cs) (suc i) lt all = digit_at cs i (omega arith) all.2

-- one character more
pub value_more : (w : List ℕ) (i : ℕ) → i < length w → value_from 0 (take (i + 1) w) ≡ value_from 0 (take i w) * 10 + (get_or w i 0 - 48)
value_more w i lt = ap (value_from 0) (take_more w i 0 lt) ∙ value_from_append 0 (take i w) (get_or w i 0 ∷ [])

pub all_more : (w : List ℕ) (i : ℕ) → i < length w → Digits (take i w) → 48 ≤ get_or w i 0 → get_or w i 0 ≤ 57 → Digits (take (i + 1) w)
all_more w i lt all lo hi = subst Digits (sym (take_more w i 0 lt)) (digits_append (take i w) (get_or w i 0 ∷ []) all (lo, hi, tt))

-- the front of a word writes no larger a number
value_front : (w : List ℕ) (i : ℕ) → value_from 0 (take i w) ≤ value_from 0 w
value_front w i =
    let e : value_from 0 w ≡ value_from (value_from 0 (take i w)) (drop i w) = ap (value_from 0) (sym (take-append-drop i w)) ∙ value_from_append 0 (take i w) (drop i w) in
    let h = value_from_least (value_from 0 (take i w)) (drop i w) in
    omega arith

-- words that are no numbers: an empty one, one with a 0 in front, and one that stops being a number below 2 ^ 64
pub empty_no_number : (w : List ℕ) → length w ≡ 0 → (n : ℕ) → n < 2 ^ 64 → w ≡ decimal n → ⊥
empty_no_number w h n lt e = let pos = decimal_nonempty n in let l = ap length e in omega arith

pub zero_no_number : (w : List ℕ) → 1 < length w → get_or w 0 0 ≡ 48 → (n : ℕ) → n < 2 ^ 64 → w ≡ decimal n → ⊥
zero_no_number w long h n lt e =
    elim (cases_eq n 0) [
      | inl z ↦ let l : length w ≡ 1 = ap length (e ∙ ap decimal z ∙ decimal_zero) in omega arith
      | inr nz ↦ decimal_head n (omega arith) (omega arith) (ap (λ v. get_or v 0 0) (sym e) ∙ h)
    ]

pub stops_no_number : (w : List ℕ) (i : ℕ) → i < length w → (48 ≤ get_or w i 0 → get_or w i 0 ≤ 57 → 2 ^ 64 ≤ value_from 0 (take i w) * 10 + (get_or w i 0 - 48)) → (n : ℕ) → n < 2 ^ 64 → w ≡ decimal n → ⊥
stops_no_number w i lt stop n small e =
    let d = digit_at w i lt (subst Digits (sym e) (decimal_all n)) in
    let over = stop d.0 d.1 in
    let more = value_more w i lt in
    let front = value_front w (i + 1) in
    let v : value_from 0 w ≡ n = ap (value_from 0) e ∙ value_decimal n (omega arith) in
    omega arith
