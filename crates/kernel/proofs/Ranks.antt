-- The number of a trail grows when a literal is set, and when a decision turns to an implied literal.
use Rattle.std.proofs.Common.{◌≡◌, ℕ, zero, suc, ◌+◌, ◌*◌, ◌^◌, ◌<◌, ◌≤◌, cond, ◌⊎◌, List, [], ◌∷◌, ◌++◌, length, get_or, take, drop, set, sym, ap, ◌∙◌, inl, inr, ⊎_elim, one-mul, two-mul, arith}
use native.Mathlib.Nat.{pow-succ'}
use Rattle.std.proofs.lemmas.Bool.{eq-eqb, ne_eqb, cases_eq}
use Rattle.std.proofs.lemmas.List.{take_more_set, drop_more, take-append-drop, take-take, length-take-le, get_or-take}
use Rattle.kernel.specs.Trail.{digit, rank}

digit_cases : (k : ℕ) → (digit k ≡ 1) ⊎ (digit k ≡ 2)
digit_cases k = ⊎_elim (λ e. inl (ap (λ b. cond b 1 2) (eq-eqb k 0 e))) (λ e. inr (ap (λ b. cond b 1 2) (ne_eqb k 0 e))) (cases_eq k 0)

pub digit_zero : (k : ℕ) → k ≡ 0 → digit k ≡ 1
digit_zero k e = ap (λ b. cond b 1 2) (eq-eqb k 0 e)

pub digit_more : (k : ℕ) → (k ≡ 0 → ⊥) → digit k ≡ 2
digit_more k e = ap (λ b. cond b 1 2) (ne_eqb k 0 e)

-- a digit's place
place : (d p : ℕ) → (d ≡ 1) ⊎ (d ≡ 2) → (d * p ≡ p) ⊎ (d * p ≡ p + p)
place d p (inl e) = inl (ap (λ z. z * p) e ∙ one-mul p)
place d p (inr e) = inr (ap (λ z. z * p) e ∙ two-mul p)

placed : (k p : ℕ) → (digit k * p ≡ p) ⊎ (digit k * p ≡ p + p)
placed k p = place (digit k) p (digit_cases k)

pub rank_below : (n : ℕ) (ks : List ℕ) → rank n ks < 3 ^ n
rank_below zero ks = omega arith
rank_below (suc n) [] = omega (arith, rank_below n [], pow-succ' 3 n)
rank_below (suc n) (k ∷ ks) = omega (arith, rank_below n ks, pow-succ' 3 n, placed k (3 ^ n))

rank_push : (m : ℕ) (ks : List ℕ) (k : ℕ) → length ks < m → rank m ks < rank m (ks ++ k ∷ [])
rank_push zero ks k h = absurd (omega arith)
rank_push (suc m) [] k h = omega (arith, rank_below m [], placed k (3 ^ m))
rank_push (suc m) (x ∷ ks) k h = omega (arith, rank_push m ks k (omega arith))

rank_turn : (m : ℕ) (ks es : List ℕ) (a b : ℕ) → length ks < m → a ≡ 0 → (b ≡ 0 → ⊥) → rank m (ks ++ a ∷ es) < rank m (ks ++ b ∷ [])
rank_turn zero ks es a b h e f = absurd (omega arith)
rank_turn (suc m) [] es a b h e f =
    omega (arith, rank_below m es, ap (λ z. z * 3 ^ m) (digit_zero a e) ∙ one-mul (3 ^ m), ap (λ z. z * 3 ^ m) (digit_more b f) ∙ two-mul (3 ^ m))
rank_turn (suc m) (x ∷ ks) es a b h e f = omega (arith, rank_turn m ks es a b (omega arith) e f)

pub push_grows : (m : ℕ) (ks : List ℕ) (n k : ℕ) → n < length ks → n < m → rank m (take n ks) < rank m (take (n + 1) (set ks n k))
push_grows m ks n k h l =
    let long = length-take-le n ks (omega arith) in
    rw (take_more_set ks n k h) (rank_push m (take n ks) k (omega arith))

pub turn_grows : (m : ℕ) (ks : List ℕ) (n r k : ℕ) → r < n → n ≤ length ks → r < m → get_or ks r 0 ≡ 0 → (k ≡ 0 → ⊥) → rank m (take n ks) < rank m (take (r + 1) (set ks r k))
turn_grows m ks n r k h l rm z nz =
    let long = length-take-le r ks (omega arith) in
    let whole = length-take-le n ks l in
    let front : take r (take n ks) ≡ take r ks = take-take r n ks (omega arith) in
    let back : drop r (take n ks) ≡ get_or (take n ks) r 0 ∷ drop (r + 1) (take n ks) = drop_more (take n ks) r 0 (omega arith) in
    let at : get_or (take n ks) r 0 ≡ 0 = get_or-take n ks r 0 h ∙ z in
    let cut : take r ks ++ get_or (take n ks) r 0 ∷ drop (r + 1) (take n ks) ≡ take n ks = sym (ap (λ l. take r ks ++ l) back) ∙ sym (ap (λ l. l ++ drop r (take n ks)) front) ∙ take-append-drop r (take n ks) in
    rw (take_more_set ks r k (omega arith)) (rw cut at (rank_turn m (take r ks) (drop (r + 1) (take n ks)) (get_or (take n ks) r 0) k (omega arith) at nz))
