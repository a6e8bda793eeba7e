-- New variables, about which no clause is yet: words of them, and that a net defines them if a test fits exactly one choice.
use Rattle.std.proofs.Common.{◌≡◌, ℕ, zero, suc, ◌+◌, ◌*◌, ◌<◌, ◌≤◌, Bool, true, false, cond, eqb, List, [], ◌∷◌, map, length, sym, refl, ap, ◌∙◌, ap₂, inl, inr, arith}
use Rattle.std.proofs.lemmas.Bool.{cases_eq, cond-true, cond-false, eq-eqb, ne_eqb}
use Rattle.clauses.proofs.Truth.{even_truth}
use Rattle.circuit.specs.Nets.{Net, wires, free}
use Rattle.circuit.specs.Meaning.{truth_of, Agree, WordBelow, Whole, Defines}
use Rattle.circuit.proofs.Models.{all_lift, meets_agree}
use Rattle.circuit.proofs.DividerMeaning.{Asks}

-- new variables that a test fits in exactly one way
pub free_whole : {n : Net} (k : ℕ) → Whole n → Whole (free k n)
free_whole {n} k w = record {
  ends = w.ends;
  below = all_lift n.next (n.next + k) (omega arith) n.out w.below;
  constant = w.constant;
  begun = omega (arith, w.begun);
}

pub defines_choice : {n m : Net} {P : (ℕ → Bool) → Bool} (k : ℕ) → Whole n → Asks (free k n) m P
    → ((s : ℕ → Bool) → (t : ℕ → Bool) × (Agree n.next s t) × (P t ≡ true))
    → ((s t : ℕ → Bool) → Agree n.next s t → P s ≡ true → P t ≡ true → Agree (n.next + k) s t)
    → Defines n m
defines_choice {n} k w a some one = record {
  grows = omega (arith, a.grows);
  whole = λ _. a.whole;
  keeps = λ s _ h. (a.parts s h).0;
  extends = λ _ s h.
      let c = some s in
      let e = a.extends c.0 (meets_agree n.next s c.0 c.1 false n.out w.below h) c.2 in
      (e.0, (λ v l. c.1 v l ∙ e.1 v (omega arith)), e.2);
  unique = λ _ s t h k e. a.unique s t h k (one s t e (a.parts s h).1 (a.parts t k).1);
}

-- words of new variables
wire_truth : (s : ℕ → Bool) (v : ℕ) → truth_of s (record { 0 = 2 * v + 2 }) ≡ s v
wire_truth s v = even_truth s (2 * v + 2) (omega arith) ∙ ap s (omega arith)

pub length_wires : (w v : ℕ) → length (wires w v) ≡ w
length_wires zero v = refl
length_wires (suc w) v = ap suc (length_wires w (suc v))

pub wires_below : (w v n : ℕ) → v + w ≤ n → WordBelow n (wires w v)
wires_below zero v n h = tt
wires_below (suc w) v n h = (record { literal = omega arith; variable = omega arith }, wires_below w (suc v) n (omega arith))

wires_same : (s t : ℕ → Bool) (w v : ℕ) → ((u : ℕ) → v ≤ u → s u ≡ t u) → map (truth_of s) (wires w v) ≡ map (truth_of t) (wires w v)
wires_same s t zero v h = refl
wires_same s t (suc w) v h = ap₂ ◌∷◌ (wire_truth s v ∙ (h v (omega arith) ∙ sym (wire_truth t v))) (wires_same s t w (suc v) (λ u l. h u (omega arith)))

pub wires_agree : (s t : ℕ → Bool) (w v : ℕ) → map (truth_of s) (wires w v) ≡ map (truth_of t) (wires w v) → (u : ℕ) → v ≤ u → u < v + w → s u ≡ t u
wires_agree s t zero v e u l h = absurd (omega arith)
wires_agree s t (suc w) v e u l h =
    let parts = cons_parts e in
    elim (cases_eq u v) [
      | inl q ↦ ap s q ∙ (sym (wire_truth s v) ∙ (parts.0 ∙ (wire_truth t v ∙ sym (ap t q))))
      | inr q ↦ wires_agree s t w (suc v) parts.1 u (omega arith) (omega arith)
    ]
  where
    cons_parts : {x y : Bool} {xs ys : List Bool} → x ∷ xs ≡ y ∷ ys → (x ≡ y) × (xs ≡ ys)
    cons_parts e = (cc, cc)

-- s with the bits bs from variable v on
pub with_word : (ℕ → Bool) → ℕ → List Bool → ℕ → Bool
with_word s v [] u = s u
with_word s v (b ∷ bs) u = cond (eqb u v) b (with_word s (suc v) bs u)

pub with_word_before : (s : ℕ → Bool) (v : ℕ) (bs : List Bool) (u : ℕ) → u < v → with_word s v bs u ≡ s u
unfolding with_word
with_word_before s v [] u h = refl
with_word_before s v (b ∷ bs) u h = cond-false (eqb u v) _ _ (ne_eqb u v (λ q. omega arith)) ∙ with_word_before s (suc v) bs u (omega arith)

pub with_word_spells : (s : ℕ → Bool) (w v : ℕ) (bs : List Bool) → length bs ≡ w → map (truth_of (with_word s v bs)) (wires w v) ≡ bs
unfolding with_word
with_word_spells s zero v [] e = refl
with_word_spells s zero v (b ∷ bs) e = absurd (omega (arith, e))
with_word_spells s (suc w) v [] e = absurd (omega (arith, e))
with_word_spells s (suc w) v (b ∷ bs) e =
    ap₂ ◌∷◌ (wire_truth (with_word s v (b ∷ bs)) v ∙ cond-true (eqb v v) _ _ (eq-eqb v v refl))
    (wires_same (with_word s v (b ∷ bs)) (with_word s (suc v) bs) w (suc v) (λ u l. cond-false (eqb u v) _ _ (ne_eqb u v (λ q. omega arith))) ∙ with_word_spells s w (suc v) bs (omega (arith, e)))
