-- What a scan of the words has shown.
use Rattle.std.proofs.Common.{◌≡◌, ℕ, zero, suc, ◌+◌, ◌/◌, ◌<◌, Bool, true, false, ◌||◌, List, [], ◌∷◌, length, get_or, drop, sym, refl, subst, inl, inr, arith}
use Rattle.std.proofs.lemmas.Bool.{cases_eq}
use Rattle.std.proofs.lemmas.List.{drop_more}
use Rattle.clauses.specs.Flat.{lit_truth, Meets, Model}
use Rattle.kernel.specs.Trail.{Agrees, False, Own}
use Rattle.kernel.specs.Scan.{Open}
use Rattle.kernel.proofs.Truth.{opposite_false}

-- who has met a clause has met it still
pub meets_true : (s : ℕ → Bool) (b : Bool) (xs : List ℕ) → Meets s b xs → Meets s true xs
meets_true s b [] h = tt
meets_true s b (zero ∷ xs) h = (refl, h.1)
meets_true s true (suc x ∷ xs) h = h
meets_true s false (suc x ∷ xs) h = meets_true s (lit_truth s (suc x)) xs h

meets_or : (s : ℕ → Bool) (b c : Bool) (xs : List ℕ) → Meets s b xs → Meets s (b || c) xs
meets_or s true c xs h = h
meets_or s false true xs h = meets_true s false xs h
meets_or s false false xs h = h

or_false : (s : ℕ → Bool) (b c : Bool) (xs : List ℕ) → c ≡ false → Meets s (b || c) xs → Meets s b xs
or_false s true c xs e h = h
or_false s false c xs e h = subst (λ d. Meets s d xs) e h

or_true : (s : ℕ → Bool) (b c : Bool) (xs : List ℕ) → c ≡ true → Meets s true xs → Meets s (b || c) xs
or_true s true c xs e h = h
or_true s false c xs e h = subst (λ d. Meets s d xs) (sym e) h

pub lit_on : (s : ℕ → Bool) (b : Bool) (x : ℕ) (xs : List ℕ) → (x ≡ 0 → ⊥) → Meets s b (x ∷ xs) → Meets s (b || lit_truth s x) xs
lit_on s b zero xs f h = absurd (f refl)
lit_on s b (suc x) xs f h = h

pub lit_back : (s : ℕ → Bool) (b : Bool) (x : ℕ) (xs : List ℕ) → (x ≡ 0 → ⊥) → Meets s (b || lit_truth s x) xs → Meets s b (x ∷ xs)
lit_back s b zero xs f h = absurd (f refl)
lit_back s b (suc x) xs f h = h

pub end_on : (s : ℕ → Bool) (b : Bool) (x : ℕ) (xs : List ℕ) → x ≡ 0 → Meets s b (x ∷ xs) → (b ≡ true) × Meets s false xs
end_on s b zero xs e h = h
end_on s b (suc x) xs e h = absurd (omega arith)

pub end_back : (s : ℕ → Bool) (b : Bool) (x : ℕ) (xs : List ℕ) → x ≡ 0 → b ≡ true → Meets s false xs → Meets s b (x ∷ xs)
end_back s b zero xs e t h = (t, h)
end_back s b (suc x) xs e t h = absurd (omega arith)

-- a literal that is not false is open
pub not_false : (vs : List ℕ) (x : ℕ) → (False vs x → ⊥) → Open vs x
not_false vs x f = elim (cases_eq (get_or vs (x / 2) 0) 0) [
  | inl e ↦ inl e
  | inr ne ↦ elim (cases_eq (get_or vs (x / 2) 0) x) [ inl e ↦ inr e | inr other ↦ absurd (f (record { set = ne; other = other })) ]
]

-- up to word i no clause was false; b: nor is the one that word i stands in, as yet
pub record Scan (ws vs : List ℕ) (i : ℕ) (b : Bool) : Type 0 where
  pub on : (s : ℕ → Bool) → Agrees s vs → Model s ws → Meets s b (drop i ws)
  pub back : (s : ℕ → Bool) → ((k : ℕ) → k < length ws → (get_or ws k 0 ≡ 0 → ⊥) → Open vs (get_or ws k 0) → lit_truth s (get_or ws k 0) ≡ true) → Meets s b (drop i ws) → Model s ws

module _ (ws vs : List ℕ) (i : ℕ) (b : Bool) (l : i < length ws) (was : Scan ws vs i b) where
  split : drop i ws ≡ get_or ws i 0 ∷ drop (i + 1) ws
  split = drop_more ws i 0 l

  pub scan_end : get_or ws i 0 ≡ 0 → b ≡ true → Scan ws vs (i + 1) false
  scan_end z e = record {
    on = λ s a m. (end_on s b (get_or ws i 0) (drop (i + 1) ws) z (subst (Meets s b) split (was.on s a m))).1;
    back = λ s a m. was.back s a (subst (Meets s b) (sym split) (end_back s b (get_or ws i 0) (drop (i + 1) ws) z e m));
  }

  -- a literal that is not false
  pub scan_open : (get_or ws i 0 ≡ 0 → ⊥) → Open vs (get_or ws i 0) → Scan ws vs (i + 1) true
  scan_open nz o = record {
    on = λ s a m. meets_true s (b || lit_truth s (get_or ws i 0)) (drop (i + 1) ws) (lit_on s b (get_or ws i 0) (drop (i + 1) ws) nz (subst (Meets s b) split (was.on s a m)));
    back = λ s a m. was.back s a (subst (Meets s b) (sym split) (lit_back s b (get_or ws i 0) (drop (i + 1) ws) nz (or_true s b (lit_truth s (get_or ws i 0)) (drop (i + 1) ws) (a i l nz o) m)));
  }

  -- a literal that is false
  pub scan_false : Own vs → get_or ws i 0 / 2 < length vs → (get_or ws i 0 ≡ 0 → ⊥) → (get_or vs (get_or ws i 0 / 2) 0 ≡ 0 → ⊥) → (get_or vs (get_or ws i 0 / 2) 0 ≡ get_or ws i 0 → ⊥) → Scan ws vs (i + 1) b
  scan_false own fits nz set other = record {
    on = λ s a m. or_false s b (lit_truth s (get_or ws i 0)) (drop (i + 1) ws)
        (opposite_false s (get_or vs (get_or ws i 0 / 2) 0) (get_or ws i 0) (own (get_or ws i 0 / 2) fits set) other (a (get_or ws i 0 / 2) fits set))
        (lit_on s b (get_or ws i 0) (drop (i + 1) ws) nz (subst (Meets s b) split (was.on s a m)));
    back = λ s a m. was.back s a (subst (Meets s b) (sym split) (lit_back s b (get_or ws i 0) (drop (i + 1) ws) nz (meets_or s b (lit_truth s (get_or ws i 0)) (drop (i + 1) ws) m)));
  }
