-- Counting the zeros of a list of words: what is free, and what is not marked.
use Rattle.std.proofs.Common.{◌≡◌, ℕ, zero, suc, ◌+◌, ◌<◌, ◌≤◌, cond, eqb, List, [], ◌∷◌, length, get_or, set, refl, ap, ⊎_elim, arith}
use Rattle.std.proofs.lemmas.Bool.{eq-eqb, ne_eqb, cases_eq}
use Rattle.kernel.specs.Trail.{zeros}

one_zero : (x : ℕ) → x ≡ 0 → ◌≡◌ {A = ℕ} (cond (eqb x 0) 1 0) 1
one_zero x e = ap (λ b. cond b 1 0) (eq-eqb x 0 e)

no_zero : (x : ℕ) → (x ≡ 0 → ⊥) → ◌≡◌ {A = ℕ} (cond (eqb x 0) 1 0) 0
no_zero x e = ap (λ b. cond b 1 0) (ne_eqb x 0 e)

-- one more is filled, or freed
pub zeros_fill : (vs : List ℕ) (k x : ℕ) → k < length vs → get_or vs k 0 ≡ 0 → (x ≡ 0 → ⊥) → zeros (set vs k x) + 1 ≡ zeros vs
zeros_fill [] k x h e f = absurd (omega arith)
zeros_fill (v ∷ vs) zero x h e f = omega (arith, one_zero v e, no_zero x f)
zeros_fill (v ∷ vs) (suc k) x h e f = omega (arith, zeros_fill vs k x (omega arith) e f)

pub zeros_free : (vs : List ℕ) (k : ℕ) → k < length vs → (get_or vs k 0 ≡ 0 → ⊥) → zeros (set vs k 0) ≡ zeros vs + 1
zeros_free [] k h e = absurd (omega arith)
zeros_free (v ∷ vs) zero h e = omega (arith, no_zero v e)
zeros_free (v ∷ vs) (suc k) h e = omega (arith, zeros_free vs k (omega arith) e)

pub zeros_some : (vs : List ℕ) (k : ℕ) → k < length vs → get_or vs k 0 ≡ 0 → 0 < zeros vs
zeros_some vs k h e = omega (arith, zeros_fill vs k 1 h e (λ q. omega arith))

-- no more than there are; and if as many, then all are
pub zeros_most : (vs : List ℕ) → zeros vs ≤ length vs
zeros_most [] = omega arith
zeros_most (v ∷ vs) = ⊎_elim (λ e. omega (arith, one_zero v e, zeros_most vs)) (λ e. omega (arith, no_zero v e, zeros_most vs)) (cases_eq v 0)

pub zeros_full : (vs : List ℕ) → zeros vs ≡ length vs → (k : ℕ) → k < length vs → get_or vs k 0 ≡ 0
zeros_full [] e k l = absurd (omega arith)
zeros_full (v ∷ vs) e zero l = ⊎_elim (λ z. z) (λ ne. absurd (omega (arith, no_zero v ne, zeros_most vs))) (cases_eq v 0)
zeros_full (v ∷ vs) e (suc k) l = ⊎_elim (λ z. zeros_full vs (omega (arith, one_zero v z)) k (omega arith)) (λ ne. absurd (omega (arith, no_zero v ne, zeros_most vs))) (cases_eq v 0)

pub zeros_all : (vs : List ℕ) → ((k : ℕ) → k < length vs → get_or vs k 0 ≡ 0) → zeros vs ≡ length vs
zeros_all [] h = refl
zeros_all (v ∷ vs) h = omega (arith, one_zero v (h 0 (omega arith)), zeros_all vs (λ k l. h (suc k) (omega arith)))
