-- The truth of a literal by its sign, and what one word more is to an assignment.
use Rattle.std.proofs.Common.{◌≡◌, ℕ, zero, suc, ◌-◌, ◌/◌, ◌%◌, Bool, true, false, not, ◌||◌, List, ◌∷◌, refl, ap, arith}
use Rattle.std.proofs.lemmas.Bool.{eq-eqb, ne_eqb}
use Rattle.clauses.specs.Clauses.{signed}
use Rattle.clauses.specs.Flat.{lit_truth, Meets}

pub even_truth : (s : ℕ → Bool) (x : ℕ) → x % 2 ≡ 0 → lit_truth s x ≡ s (x / 2 - 1)
even_truth s x h = ap (λ b. signed b (s (x / 2 - 1))) (eq-eqb (x % 2) 0 h)

pub odd_truth : (s : ℕ → Bool) (x : ℕ) → (x % 2 ≡ 0 → ⊥) → lit_truth s x ≡ not (s (x / 2 - 1))
odd_truth s x h = ap (λ b. signed b (s (x / 2 - 1))) (ne_eqb (x % 2) 0 h)

pub literal_meets : (s : ℕ → Bool) (b : Bool) (x : ℕ) (xs : List ℕ) → (x ≡ 0 → ⊥) → Meets s (b || lit_truth s x) xs → Meets s b (x ∷ xs)
literal_meets s b zero xs f h = absurd (f refl)
literal_meets s b (suc x) xs f h = h

pub meets_literal : (s : ℕ → Bool) (b : Bool) (x : ℕ) (xs : List ℕ) → (x ≡ 0 → ⊥) → Meets s b (x ∷ xs) → Meets s (b || lit_truth s x) xs
meets_literal s b zero xs f h = absurd (f refl)
meets_literal s b (suc x) xs f h = h

pub end_meets : (s : ℕ → Bool) (b : Bool) (x : ℕ) (xs : List ℕ) → x ≡ 0 → b ≡ true → Meets s false xs → Meets s b (x ∷ xs)
end_meets s b zero xs e t h = (t, h)
end_meets s b (suc x) xs e t h = absurd (omega arith)
