-- Whether words are clauses.
use Rattle.std.proofs.Common.{◌≡◌, ◌≢◌, ℕ, zero, suc, ◌+◌, ◌-◌, ◌/◌, ◌<◌, ◌≤◌, Bool, true, false, eqb, ◌⊎◌, List, [], ◌∷◌, length, get_or, MatchBool, sym, ap, ◌∙◌, refl, subst, inl, inr, arith}
use Rattle.std.proofs.lemmas.Bool.{cases_eq, eq-eqb, ne_eqb, true≢false}
use Rattle.clauses.specs.Flat.{Well, Within}

-- words are clauses exactly if none is 1 and the last, where there is one, is 0
pub well_ended : (b : Bool) (x : ℕ) (ws : List ℕ) → ((k : ℕ) → k < length (x ∷ ws) → get_or (x ∷ ws) k 0 ≢ 1) → get_or (x ∷ ws) (length ws) 0 ≡ 0 → Well b (x ∷ ws)
well_ended b zero [] f e = refl
well_ended b (suc x) [] f e = absurd (omega arith)
well_ended b zero (y ∷ ws) f e = well_ended false y ws (λ k l. f (suc k) (omega arith)) e
well_ended b (suc zero) (y ∷ ws) f e = absurd (f 0 (omega arith) refl)
well_ended b (suc (suc x)) (y ∷ ws) f e = well_ended true y ws (λ k l. f (suc k) (omega arith)) e

pub well_apart : (b : Bool) (ws : List ℕ) → Well b ws → (k : ℕ) → k < length ws → get_or ws k 0 ≢ 1
well_apart b [] h k l = absurd (omega arith)
well_apart b (zero ∷ ws) h zero l = λ e. omega arith
well_apart b (zero ∷ ws) h (suc k) l = well_apart false ws h k (omega arith)
well_apart b (suc zero ∷ ws) h k l = absurd h
well_apart b (suc (suc x) ∷ ws) h zero l = λ e. omega arith
well_apart b (suc (suc x) ∷ ws) h (suc k) l = well_apart true ws h k (omega arith)

pub well_last : (b : Bool) (x : ℕ) (ws : List ℕ) → Well b (x ∷ ws) → get_or (x ∷ ws) (length ws) 0 ≡ 0
well_last b zero [] h = refl
well_last b (suc zero) [] h = absurd h
well_last b (suc (suc x)) [] h = absurd (true≢false h)
well_last b zero (y ∷ ws) h = well_last false y ws h
well_last b (suc zero) (y ∷ ws) h = absurd h
well_last b (suc (suc x)) (y ∷ ws) h = well_last true y ws h

-- what the last word says, where none is 1
pub well_by_last : (ws : List ℕ) (b : Bool) → ((k : ℕ) → k < length ws → get_or ws k 0 ≢ 1) → (0 < length ws → b ≡ eqb (get_or ws (length ws - 1) 0) 0) → (length ws ≡ 0 → b ≡ true) → MatchBool b (Well false ws) (Well false ws → ⊥)
well_by_last [] b f some none = subst (λ c. MatchBool c (Well false []) (Well false [] → ⊥)) (sym (none refl)) refl
well_by_last (x ∷ ws) b f some none = subst (λ c. MatchBool c (Well false (x ∷ ws)) (Well false (x ∷ ws) → ⊥)) (sym (some (omega arith) ∙ ap (λ i. eqb (get_or (x ∷ ws) i 0) 0) (omega arith))) (by_last (cases_eq (get_or (x ∷ ws) (length ws) 0) 0))
  where
    by_last : (get_or (x ∷ ws) (length ws) 0 ≡ 0) ⊎ (get_or (x ∷ ws) (length ws) 0 ≢ 0) → MatchBool (eqb (get_or (x ∷ ws) (length ws) 0) 0) (Well false (x ∷ ws)) (Well false (x ∷ ws) → ⊥)
    by_last (inl e) = subst (λ c. MatchBool c (Well false (x ∷ ws)) (Well false (x ∷ ws) → ⊥)) (sym (eq-eqb (get_or (x ∷ ws) (length ws) 0) 0 e)) (well_ended false x ws f e)
    by_last (inr ne) = subst (λ c. MatchBool c (Well false (x ∷ ws)) (Well false (x ∷ ws) → ⊥)) (sym (ne_eqb (get_or (x ∷ ws) (length ws) 0) 0 ne)) (λ h. ne (well_last false x ws h))

-- a word that is not 0 is a literal
pub well_literal : (b : Bool) (ws : List ℕ) → Well b ws → (k : ℕ) → k < length ws → (get_or ws k 0 ≡ 0 → ⊥) → 2 ≤ get_or ws k 0
well_literal b [] h k l f = absurd (omega arith)
well_literal b (zero ∷ ws) h zero l f = absurd (f refl)
well_literal b (zero ∷ ws) h (suc k) l f = well_literal false ws h k (omega arith) f
well_literal b (suc zero ∷ ws) h k l f = absurd h
well_literal b (suc (suc x) ∷ ws) h zero l f = omega arith
well_literal b (suc (suc x) ∷ ws) h (suc k) l f = well_literal true ws h k (omega arith) f

-- and has a variable
pub well_variable : (ws : List ℕ) (n : ℕ) → Well false ws → Within ws (n + 1) → (k : ℕ) → k < length ws → (get_or ws k 0 ≡ 0 → ⊥) → (1 ≤ get_or ws k 0 / 2) × (get_or ws k 0 / 2 - 1 < n)
well_variable ws n h w k l f = let two = well_literal false ws h k l f in (omega arith, omega (arith, w k l))

pub literal_well : (b : Bool) (x : ℕ) (xs : List ℕ) → 2 ≤ x → Well true xs → Well b (x ∷ xs)
literal_well b zero xs l h = absurd (omega arith)
literal_well b (suc zero) xs l h = absurd (omega arith)
literal_well b (suc (suc x)) xs l h = h

pub end_well : (b : Bool) (x : ℕ) (xs : List ℕ) → x ≡ 0 → Well false xs → Well b (x ∷ xs)
end_well b zero xs e h = h
end_well b (suc x) xs e h = absurd (omega arith)
