-- One turn of the odometer, place by place.
use Rattle.std.proofs.Common.{◌≡◌, ℕ, ◌+◌, ◌^◌, ◌<◌, ◌≤◌, Bool, false, List, length, get_or, set, ap, ◌∙◌, subst, inl, inr, arith}
use Rattle.std.proofs.lemmas.List.{get_or-set_same, get_or-set_other}
use Rattle.std.proofs.lemmas.Bool.{cases_eq, both_ways}
use Rattle.small_rules.specs.Odometer.{Used, Moved}

-- the used places below k went from the largest word m to 0, and the others are as they were
pub record Turning (us : List Bool) (m : ℕ) (xs ys : List ℕ) (k : ℕ) : Type 0 where
  pub words : (j : ℕ) → get_or ys j 0 ≤ m
  pub low : (j : ℕ) → j < k → Used us j → (get_or xs j 0 ≡ m) × (get_or ys j 0 ≡ 0)
  pub high : (j : ℕ) → k ≤ j → get_or ys j 0 ≡ get_or xs j 0

-- a word in place of another
pub words_set : (m : ℕ) (ys : List ℕ) (k y : ℕ) → k < length ys → ((j : ℕ) → get_or ys j 0 ≤ m) → y ≤ m → (j : ℕ) → get_or (set ys k y) j 0 ≤ m
words_set m ys k y room all h j =
    elim (cases_eq j k) [
      | inl e ↦ rw (e, get_or-set_same ys k y 0 room) h
      | inr ne ↦ rw (get_or-set_other ys k j y 0 ne) (all j)
    ]

-- a used place that has the largest word
pub turning_zero : (us : List Bool) (m : ℕ) (xs ys : List ℕ) (k : ℕ) → k < length ys → m ≤ get_or ys k 0 → Turning us m xs ys k → Turning us m xs (set ys k 0) (k + 1)
turning_zero us m xs ys k room full t = record {
  words = words_set m ys k 0 room t.words (omega arith);
  low = λ j h u.
      elim (cases_eq j k) [
        | inl e ↦
            let same = t.high k (omega arith) in
            let most = t.words k in
            let top : get_or xs k 0 ≡ m = omega arith in
            rw e (top, get_or-set_same ys k 0 0 room)
        | inr ne ↦
            let p = t.low j (omega arith) u in
            (p.0, get_or-set_other ys k j 0 0 ne ∙ p.1)
      ];
  high = λ j h. get_or-set_other ys k j 0 0 (omega arith) ∙ t.high j (omega arith);
}

-- a place that isn't used
pub turning_past : (us : List Bool) (m : ℕ) (xs ys : List ℕ) (k : ℕ) → get_or us k false ≡ false → Turning us m xs ys k → Turning us m xs ys (k + 1)
turning_past us m xs ys k out t = record {
  words = t.words;
  low = λ j h u.
      elim (cases_eq j k) [
        | inl e ↦ absurd (both_ways (get_or us k false) out (subst (λ i. Used us i) e u))
        | inr ne ↦ t.low j (omega arith) u
      ];
  high = λ j h. t.high j (omega arith);
}

-- the first used place that can go up
pub turning_up : (us : List Bool) (m w : ℕ) (xs ys : List ℕ) (k : ℕ) → m + 1 ≡ 2 ^ w → k < length ys → Turning us m xs ys k → Moved us w xs (set ys k (get_or ys k 0 + 1))
turning_up us m w xs ys k most room t = record {
  place = k;
  up = get_or-set_same ys k (get_or ys k 0 + 1) 0 room ∙ ap (λ n. n + 1) (t.high k (omega arith));
  low = λ j h u.
      let p = t.low j h u in
      (ap (λ n. n + 1) p.0 ∙ most, get_or-set_other ys k j (get_or ys k 0 + 1) 0 (omega arith) ∙ p.1);
  high = λ j h. get_or-set_other ys k j (get_or ys k 0 + 1) 0 (omega arith) ∙ t.high j (omega arith);
}
