-- A clause that follows by reverse unit propagation.
use Rattle.std.proofs.Common.{◌≡◌, ℕ, ◌+◌, ◌/◌, ◌<◌, Bool, true, false, List, length, get_or, set, sym, refl, ap, ◌∙◌, subst, ⊎_elim, zero-add, arith, length-set, get_or-set_other, get_or-set_same}
use Rattle.std.proofs.lemmas.Bool.{cases_eq}
use Rattle.clauses.specs.Flat.{lit_truth, Model}
use Rattle.kernel.specs.Trail.{Agrees, Clash, Forced, Own}
use Rattle.kernel.specs.Arena.{Word, Clause}
use Rattle.kernel.specs.Hints.{Denied}
use Rattle.kernel.proofs.Truth.{opposite_true}
use Rattle.kernel.proofs.Covering.{some_or_none}

-- a value more, that is true
pub agrees_set : (values : List ℕ) (x : ℕ) (s : ℕ → Bool) → lit_truth s x ≡ true → Agrees s values → Agrees s (set values (x / 2) x)
agrees_set values x s t a k l f =
    let long = length-set values (x / 2) x in
    ⊎_elim
    (λ e. ap (λ (i : ℕ). lit_truth s (get_or (set values (x / 2) x) i 0)) e ∙ ap (lit_truth s) (get_or-set_same values (x / 2) x 0 (omega arith)) ∙ t)
    (λ ne. ap (lit_truth s) (get_or-set_other values (x / 2) k x 0 ne) ∙ a k (omega arith) (λ z. f (get_or-set_other values (x / 2) k x 0 ne ∙ z)))
    (cases_eq k (x / 2))

pub own_set : (values : List ℕ) (h x : ℕ) → x / 2 ≡ h → Own values → Own (set values h x)
own_set values h x half own k l f =
    let long = length-set values h x in
    ⊎_elim
    (λ e. ap (λ (i : ℕ). get_or (set values h x) i 0 / 2) e ∙ ap (λ (y : ℕ). y / 2) (get_or-set_same values h x 0 (omega arith)) ∙ half ∙ sym e)
    (λ ne. ap (λ (y : ℕ). y / 2) (get_or-set_other values h k x 0 ne) ∙ own k (omega arith) (λ z. f (get_or-set_other values h k x 0 ne ∙ z)))
    (cases_eq k h)

pub denied_more : (values lits : List ℕ) (i x : ℕ) → Word (length values) (get_or lits i 0) → get_or lits i 0 / 2 ≡ x / 2 → (get_or lits i 0 ≡ x → ⊥) → Denied values lits i → Denied (set values (get_or lits i 0 / 2) x) lits (i + 1)
denied_more values lits i x w half ne was =
    let long = length-set values (get_or lits i 0 / 2) x in
    record {
      words = λ j l. subst (λ m. Word m (get_or lits j 0)) (sym long) (⊎_elim (λ e. subst (λ p. Word (length values) (get_or lits p 0)) (sym e) w) (λ nj. was.words j (omega arith)) (cases_eq j i));
      own = own_set values (get_or lits i 0 / 2) x (sym half) was.own;
      agrees = λ s no. subst (λ h. Agrees s (set values h x)) (sym half) (agrees_set values x s (opposite_true s (get_or lits i 0) x half ne (no i (omega arith))) (was.agrees s (λ j l. no j (omega arith))));
    }

-- the literals, and values with which each model agrees that makes all of them false
pub record Hinted (ws values lits : List ℕ) : Type 0 where
  pub words : (j : ℕ) → j < length lits → Word (length values) (get_or lits j 0)
  pub own : Own values
  pub agrees : (s : ℕ → Bool) → Model s ws → ((j : ℕ) → j < length lits → lit_truth s (get_or lits j 0) ≡ false) → Agrees s values

pub hinted_more : (ws values lits : List ℕ) (x : ℕ) → Forced ws values x → Hinted ws values lits → Hinted ws (set values (x / 2) x) lits
hinted_more ws values lits x f h = record {
  words = λ j l. subst (λ m. Word m (get_or lits j 0)) (sym (length-set values (x / 2) x)) (h.words j l);
  own = own_set values (x / 2) x refl h.own;
  agrees = λ s m no. let a = h.agrees s m no in agrees_set values x s (f.holds s a m) a;
}

pub hinted_clause : (ws values lits : List ℕ) → Clash ws values → Hinted ws values lits → Clause ws lits (length values) 0 (length lits)
hinted_clause ws values lits c h = record {
  words = λ k l. subst (λ p. Word (length values) (get_or lits p 0)) (sym (zero-add k)) (h.words k l);
  follows = λ s m. ⊎_elim
      (λ has. has)
      (λ none. absurd (c s (h.agrees s m (λ j l. ap (λ (p : ℕ). lit_truth s (get_or lits p 0)) (sym (zero-add j)) ∙ none j l)) m))
      (some_or_none s lits 0 (length lits));
}
