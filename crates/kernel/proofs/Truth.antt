-- The truth of two literals of one variable.
use Rattle.std.proofs.Common.{◌≡◌, ℕ, ◌-◌, ◌/◌, ◌%◌, Bool, true, false, not, sym, refl, ap, ◌∙◌, ⊎_elim, arith}
use Rattle.std.proofs.lemmas.Bool.{cases_eq}
use Rattle.clauses.specs.Flat.{lit_truth}
use Rattle.clauses.proofs.Truth.{even_truth, odd_truth}

-- of two literals of one variable one is true
pub opposite : (s : ℕ → Bool) (x y : ℕ) → x / 2 ≡ y / 2 → (x ≡ y → ⊥) → lit_truth s x ≡ not (lit_truth s y)
opposite s x y e ne =
    let here : s (x / 2 - 1) ≡ s (y / 2 - 1) = ap (λ (k : ℕ). s (k - 1)) e in
    ⊎_elim
    (λ p. ⊎_elim (λ q. absurd (ne (omega arith))) (λ q. even_truth s x p ∙ here ∙ twice (s (y / 2 - 1)) ∙ sym (ap not (odd_truth s y q))) (cases_eq (y % 2) 0))
    (λ p. ⊎_elim (λ q. odd_truth s x p ∙ ap not here ∙ sym (ap not (even_truth s y q))) (λ q. absurd (ne (omega arith))) (cases_eq (y % 2) 0))
    (cases_eq (x % 2) 0)
  where
    twice : (b : Bool) → b ≡ not (not b)
    twice true = refl
    twice false = refl

pub opposite_false : (s : ℕ → Bool) (x y : ℕ) → x / 2 ≡ y / 2 → (x ≡ y → ⊥) → lit_truth s x ≡ true → lit_truth s y ≡ false
opposite_false s x y e ne t = opposite s y x (sym e) (λ q. ne (sym q)) ∙ ap not t

pub opposite_true : (s : ℕ → Bool) (x y : ℕ) → x / 2 ≡ y / 2 → (x ≡ y → ⊥) → lit_truth s x ≡ false → lit_truth s y ≡ true
opposite_true s x y e ne t = opposite s y x (sym e) (λ q. ne (sym q)) ∙ ap not t
