-- What was said of all words before some, in the order of the odometer, is said of all before the next.
use Rattle.std.proofs.Common.{◌≡◌, ℕ, zero, suc, ◌+◌, ◌^◌, ◌<◌, ◌≤◌, Bool, false, List, get_or, sym, ◌∙◌, subst, inl, inr, arith}
use Rattle.std.proofs.lemmas.Bool.{cases_eq, cases_lt, cases_Bool, cases_order, both_ways}
use Rattle.terms.specs.Terms.{Within}
use Rattle.small_rules.specs.Odometer.{Used, Moved}

-- f has the words of xs at the used places from k on
abbrev pub Agree : List Bool → List ℕ → ℕ → (ℕ → ℕ) → Type 0
Agree us xs k f = (j : ℕ) → k ≤ j → j < 16 → Used us j → f j ≡ get_or xs j 0

-- P is so of all words that are before xs: less at a used place, and the same at those after it
abbrev pub Before : ((ℕ → ℕ) → Type 0) → List Bool → ℕ → List ℕ → Type 0
Before P us w xs = (f : ℕ → ℕ) (k : ℕ) → Within w f → k < 16 → Used us k → f k < get_or xs k 0 → Agree us xs (k + 1) f → P f

-- P is so of xs itself
abbrev pub Here : ((ℕ → ℕ) → Type 0) → List Bool → ℕ → List ℕ → Type 0
Here P us w xs = (f : ℕ → ℕ) → Within w f → Agree us xs 0 f → P f

-- where the used places below k have the largest word, P is so whatever stands there
pub stage : (P : (ℕ → ℕ) → Type 0) (us : List Bool) (w : ℕ) (xs : List ℕ) (k : ℕ) → Before P us w xs → Here P us w xs → ((j : ℕ) → j < k → Used us j → get_or xs j 0 + 1 ≡ 2 ^ w) → k ≤ 16 → (f : ℕ → ℕ) → Within w f → Agree us xs k f → P f
stage P us w xs zero before here low le f wi same = here f wi same
stage P us w xs (suc k) before here low le f wi same =
    elim (cases_Bool (get_or us k false)) [
      | inl u ↦
          elim (cases_lt (f k) (get_or xs k 0)) [
            | inl lt ↦ before f k wi (omega arith) u lt (λ j a b v. same j (omega arith) b v)
            | inr ge ↦
                let small = wi k in
                let top = low k (omega arith) u in
                let eq : f k ≡ get_or xs k 0 = omega arith in
                stage P us w xs k before here (λ j a v. low j (omega arith) v) (omega arith) f wi
                (λ j a b v. elim (cases_eq j k) [ inl e ↦ rw e eq | inr ne ↦ same j (omega arith) b v ])
          ]
      | inr out ↦
          stage P us w xs k before here (λ j a v. low j (omega arith) v) (omega arith) f wi
          (λ j a b v.
          elim (cases_eq j k) [
            | inl e ↦ absurd (both_ways (get_or us k false) out (subst (λ i. Used us i) e v))
            | inr ne ↦ same j (omega arith) b v
          ])
    ]

-- the next words
pub before_next : (P : (ℕ → ℕ) → Type 0) (us : List Bool) (w : ℕ) (xs ys : List ℕ) → Before P us w xs → Here P us w xs → Moved us w xs ys → Before P us w ys
before_next P us w xs ys before here m f k wi lt u less same =
    elim (cases_order k m.place) [
      | inl e ↦
          let up = subst (λ i. get_or ys i 0 ≡ get_or xs i 0 + 1) (sym e) m.up in
          let above : Agree us xs (k + 1) f = λ j a b v. same j a b v ∙ m.high j (omega arith) in
          elim (cases_lt (f k) (get_or xs k 0)) [
            | inl lower ↦ before f k wi lt u lower above
            | inr ge ↦
                let eq : f k ≡ get_or xs k 0 = omega arith in
                stage P us w xs k before here (λ j a v. (m.low j (omega arith) v).0) (omega arith) f wi
                (λ j a b v. elim (cases_eq j k) [ inl e ↦ rw e eq | inr ne ↦ above j (omega arith) b v ])
          ]
      | inr other ↦
          elim other [
            | inl lower ↦
                let none = (m.low k lower u).1 in
                let z : ⊥ = omega arith in
                absurd z
            | inr higher ↦
                before f k wi lt u (subst (λ n. f k < n) (m.high k higher) less) (λ j a b v. same j a b v ∙ m.high j (omega arith))
          ]
    ]

-- none are before 0
pub before_zero : (P : (ℕ → ℕ) → Type 0) (us : List Bool) (w : ℕ) (xs : List ℕ) → ((j : ℕ) → j < 16 → Used us j → get_or xs j 0 ≡ 0) → Before P us w xs
before_zero P us w xs zeros f k wi lt u less same =
    let none = zeros k lt u in
    let z : ⊥ = omega arith in
    absurd z

-- after the last ones P is so of all
pub all_said : (P : (ℕ → ℕ) → Type 0) (us : List Bool) (w : ℕ) (xs : List ℕ) → Before P us w xs → Here P us w xs → ((j : ℕ) → j < 16 → Used us j → get_or xs j 0 + 1 ≡ 2 ^ w) → (f : ℕ → ℕ) → Within w f → P f
all_said P us w xs before here full f wi =
    stage P us w xs 16 before here full (omega arith) f wi
    (λ j a b v.
    let z : ⊥ = omega arith in
    absurd z)
