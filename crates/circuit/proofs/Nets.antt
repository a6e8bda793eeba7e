-- Nets that define: nothing, one net after another, and one gate. What a literal carries, it carries in each later net.
use Rattle.std.proofs.Common.{◌≡◌, ℕ, suc, ◌+◌, ◌*◌, Bool, true, false, cond, not, eqb, List, [], ◌∷◌, map, sym, refl, ap, ◌∙◌, subst, ap₂, inl, inr, arith}
use Rattle.std.proofs.lemmas.Bool.{cases_eq, cond-true, cond-false, eq-eqb, ne_eqb}
use Rattle.words.specs.Words.{xor}
use Rattle.clauses.specs.declared.literal.Literal.{Literal}
use Rattle.clauses.specs.Flat.{Model}
use Rattle.clauses.proofs.Truth.{even_truth}
use Rattle.clauses.specs.Literals.{negated}
use Rattle.circuit.specs.Nets.{Net, high, low, fresh, taken}
use Rattle.circuit.specs.Gates.{gate}
use Rattle.circuit.specs.Meaning.{truth_of, Agree, Below, AllBelow, WordBelow, Whole, Defines, Carries, Spells, Makes, MakesWord, MakesBoth}
use Rattle.circuit.proofs.Models.{every, ClausesBelow, truth_negated, below_negated, below_lift, word_lift, all_lift, all_parts, all_both, all_well, said_all_below, said_all_next, meets_agree}

pub defines_none : (n : Net) → Defines n n
defines_none n = record {
  grows = omega arith;
  whole = λ w. w;
  keeps = λ s w h. h;
  extends = λ w s h. (s, (λ v l. refl), h);
  unique = λ w s t h k a. a;
}

pub defines_then : {n m p : Net} → Defines n m → Defines m p → Defines n p
defines_then {n} {m} {p} d e = record {
  grows = omega (arith, d.grows, e.grows);
  whole = λ w. e.whole (d.whole w);
  keeps = λ s w h. d.keeps s w (e.keeps s (d.whole w) h);
  extends = λ w s h.
      let x = d.extends w s h in
      let y = e.extends (d.whole w) x.0 x.2 in
      (y.0, (λ v l. x.1 v l ∙ y.1 v (omega (arith, d.grows))), y.2);
  unique = λ w s t h k a. e.unique (d.whole w) s t h k (d.unique w s t (e.keeps s (d.whole w) h) (e.keeps t (d.whole w) k) a);
}

-- what is carried
pub carries_itself : {n : Net} {l : Literal} → Below n.next l.0 → Carries n l (λ s. truth_of s l)
carries_itself b = record { below = b; means = λ s h. refl }

pub spells_itself : {n : Net} {ls : List Literal} → WordBelow n.next ls → Spells n ls (λ s. map (truth_of s) ls)
spells_itself b = record { below = b; means = λ s h. refl }

pub below_later : {n m : Net} → Defines n m → (ls : List Literal) → WordBelow n.next ls → WordBelow m.next ls
below_later {n} {m} d ls b = word_lift n.next m.next d.grows ls b

pub carries_later : {n m : Net} {l : Literal} {f : (ℕ → Bool) → Bool} → Whole n → Defines n m → Carries n l f → Carries m l f
carries_later {n} {m} {l} w d c = record { below = below_lift n.next m.next l.0 d.grows c.below; means = λ s h. c.means s (d.keeps s w h) }

pub spells_later : {n m : Net} {ls : List Literal} {f : (ℕ → Bool) → List Bool} → Whole n → Defines n m → Spells n ls f → Spells m ls f
spells_later {ls = ls} w d c = record { below = below_later d ls c.below; means = λ s h. c.means s (d.keeps s w h) }

pub spells_none : {n : Net} → Spells n [] (λ s. [])
spells_none = record { below = tt; means = λ s h. refl }

pub spells_bit : {n : Net} {l : Literal} {ls : List Literal} {f : (ℕ → Bool) → Bool} {g : (ℕ → Bool) → List Bool} → Carries n l f → Spells n ls g → Spells n (l ∷ ls) (λ s. f s ∷ g s)
spells_bit c w = record { below = (c.below, w.below); means = λ s h. ap₂ ◌∷◌ (c.means s h) (w.means s h) }

pub carries_high : {n : Net} → Whole n → Carries n high (λ s. true)
carries_high {n} w = record { below = record { literal = omega arith; variable = omega (arith, w.begun) }; means = λ s h. even_truth s 2 refl ∙ w.constant s h }

pub carries_negated : {n : Net} {l : Literal} {f : (ℕ → Bool) → Bool} → Carries n l f → Carries n (negated l) (λ s. not (f s))
carries_negated {n} {l} c = record { below = below_negated n.next l c.below; means = λ s h. truth_negated s l ∙ ap not (c.means s h) }

pub carries_low : {n : Net} → Whole n → Carries n low (λ s. false)
carries_low w = carries_negated (carries_high w)

-- the same bit in other words
pub carries_as : {n : Net} {l : Literal} {f g : (ℕ → Bool) → Bool} → ((s : ℕ → Bool) → Model s n.out → f s ≡ g s) → Carries n l f → Carries n l g
carries_as e c = record { below = c.below; means = λ s h. c.means s h ∙ e s h }

pub spells_as : {n : Net} {ls : List Literal} {f g : (ℕ → Bool) → List Bool} → ((s : ℕ → Bool) → Model s n.out → f s ≡ g s) → Spells n ls f → Spells n ls g
spells_as e c = record { below = c.below; means = λ s h. c.means s h ∙ e s h }

module _ {n : Net} (w : Whole n) where
  pub makes_as : {r : Net × Literal} {f g : (ℕ → Bool) → Bool} → ((s : ℕ → Bool) → Model s n.out → f s ≡ g s) → Makes n r f → Makes n r g
  makes_as e m = record { defines = m.defines; carries = carries_as (λ s h. e s (m.defines.keeps s w h)) m.carries }

  pub makes_word_as : {r : Net × List Literal} {f g : (ℕ → Bool) → List Bool} → ((s : ℕ → Bool) → Model s n.out → f s ≡ g s) → MakesWord n r f → MakesWord n r g
  makes_word_as e m = record { defines = m.defines; spells = spells_as (λ s h. e s (m.defines.keeps s w h)) m.spells }

  pub makes_both_as : {r : Net × (List Literal × Literal)} {f f' : (ℕ → Bool) → List Bool} {g g' : (ℕ → Bool) → Bool}
      → ((s : ℕ → Bool) → Model s n.out → f s ≡ f' s) → ((s : ℕ → Bool) → Model s n.out → g s ≡ g' s) → MakesBoth n r f g → MakesBoth n r f' g'
  makes_both_as e d m = record {
    defines = m.defines;
    spells = spells_as (λ s h. e s (m.defines.keeps s w h)) m.spells;
    carries = carries_as (λ s h. d s (m.defines.keeps s w h)) m.carries;
  }

-- no gate, and one net after another
pub makes_none : {n : Net} {l : Literal} {f : (ℕ → Bool) → Bool} → Carries n l f → Makes n (n, l) f
makes_none {n} c = record { defines = defines_none n; carries = c }

pub makes_word_none : {n : Net} {ls : List Literal} {f : (ℕ → Bool) → List Bool} → Spells n ls f → MakesWord n (n, ls) f
makes_word_none {n} c = record { defines = defines_none n; spells = c }

pub makes_after : {n m : Net} {r : Net × Literal} {f : (ℕ → Bool) → Bool} → Defines n m → Makes m r f → Makes n r f
makes_after d m = record { defines = defines_then d m.defines; carries = m.carries }

pub makes_word_after : {n m : Net} {r : Net × List Literal} {f : (ℕ → Bool) → List Bool} → Defines n m → MakesWord m r f → MakesWord n r f
makes_word_after d m = record { defines = defines_then d m.defines; spells = m.spells }

-- a gate: clauses that hold exactly if the new variable is f
pub both_same : (x y : Bool) → not (xor x y) ≡ true → x ≡ y
both_same true true e = refl
both_same true false e = sym e
both_same false true e = e
both_same false false e = refl

same_both : (x y : Bool) → x ≡ y → not (xor x y) ≡ true
same_both true y e = rw (← e)
same_both false y e = rw (← e)

pub fresh_below : (n : Net) → Below (suc n.next) (fresh n).0
fresh_below n = record { literal = omega arith; variable = omega arith }

fresh_truth : (n : Net) (s : ℕ → Bool) → truth_of s (fresh n) ≡ s n.next
fresh_truth n s = even_truth s (2 * n.next + 2) (omega arith) ∙ ap s (omega arith)

module _ {n : Net} (rows : Literal → List (List Literal)) (f : (ℕ → Bool) → Bool) (w : Whole n)
    (sees : (s t : ℕ → Bool) → Agree n.next s t → f s ≡ f t)
    (below : ClausesBelow (suc n.next) (rows (fresh n)))
    (table : (s : ℕ → Bool) → every s (rows (fresh n)) ≡ not (xor (truth_of s (fresh n)) (f s))) where
  gate_parts : (s : ℕ → Bool) → Model s (gate rows n).0.out → Model s n.out × (truth_of s (fresh n) ≡ f s)
  gate_parts s h =
      let r = all_parts (suc n.next) s (rows (fresh n)) (taken n) w.ends below h in
      (r.0, both_same _ _ (sym (table s) ∙ r.1))

  gate_next : (gate rows n).0.next ≡ suc n.next
  gate_next = said_all_next (rows (fresh n)) (taken n)

  with_gate : (ℕ → Bool) → ℕ → Bool
  with_gate s v = cond (eqb v n.next) (f s) (s v)

  with_agrees : (s : ℕ → Bool) → Agree n.next s (with_gate s)
  unfolding with_gate
  with_agrees s v l = sym (cond-false (eqb v n.next) _ _ (ne_eqb v n.next (λ q. omega arith)))

  with_truth : (s : ℕ → Bool) → truth_of (with_gate s) (fresh n) ≡ f (with_gate s)
  unfolding with_gate
  with_truth s = fresh_truth n (with_gate s) ∙ (cond-true (eqb n.next n.next) _ _ (eq-eqb _ _ refl) ∙ sees s (with_gate s) (with_agrees s))

  gate_whole : Whole (gate rows n).0
  gate_whole = record {
    ends = all_well (suc n.next) (rows (fresh n)) (taken n) w.ends below;
    below = subst (λ v. AllBelow v (gate rows n).0.out) (sym gate_next) (said_all_below (suc n.next) (rows (fresh n)) (taken n) (all_lift n.next (suc n.next) (omega arith) n.out w.below) below);
    constant = λ s h. w.constant s (gate_parts s h).0;
    begun = omega (arith, gate_next);
  }

  gate_unique : (s t : ℕ → Bool) → Model s (gate rows n).0.out → Model t (gate rows n).0.out → Agree n.next s t → Agree (gate rows n).0.next s t
  gate_unique s t h k a v l = elim (cases_eq v n.next) [
    | inl q ↦ ap s q ∙ (sym (fresh_truth n s) ∙ ((gate_parts s h).1 ∙ (sees s t a ∙ (sym (gate_parts t k).1 ∙ (fresh_truth n t ∙ sym (ap t q))))))
    | inr q ↦ a v (omega (arith, gate_next))
  ]

  pub gate_makes : Makes n (gate rows n) f
  gate_makes = record {
    defines = record {
      grows = omega (arith, gate_next);
      whole = λ _. gate_whole;
      keeps = λ s _ h. (gate_parts s h).0;
      extends = λ _ s h. (
        with_gate s,
        with_agrees s,
        all_both (suc n.next) (with_gate s) (rows (fresh n)) (taken n) w.ends below
            (meets_agree n.next s (with_gate s) (with_agrees s) false n.out w.below h)
            (table (with_gate s) ∙ same_both _ _ (with_truth s)),
      );
      unique = λ _. gate_unique;
    };
    carries = record { below = subst (λ v. Below v (fresh n).0) (sym gate_next) (fresh_below n); means = λ s h. (gate_parts s h).1 };
  }
