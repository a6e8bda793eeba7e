-- A clause of which all literals, or all but one, are false.
use Rattle.std.proofs.Common.{◌≡◌, ◌≢◌, ℕ, ◌+◌, ◌/◌, ◌<◌, ◌≤◌, IfSome, Bool, true, false, Option, Some, None, List, length, get_or, sym, ap, ◌∙◌, subst, ⊎_elim, arith}
use Rattle.std.proofs.lemmas.Bool.{cases_eq, true≢false}
use Rattle.clauses.specs.declared.literal.Literal.{Literal}
use Rattle.clauses.specs.Flat.{lit_truth, Model}
use Rattle.kernel.specs.Trail.{Agrees, Clash, False, Forced, Free, Own}
use Rattle.kernel.specs.Arena.{Clause}
use Rattle.kernel.proofs.Truth.{opposite_false}

-- a literal that is false is false in each assignment that agrees
pub false_in : (values : List ℕ) (x : ℕ) → Own values → x / 2 < length values → False values x → (s : ℕ → Bool) → Agrees s values → lit_truth s x ≡ false
false_in values x own l f s a = opposite_false s (get_or values (x / 2) 0) x (own (x / 2) l f.set) f.other (a (x / 2) l f.set)

-- the code of a literal that may be there, or 0
abbrev pub code : Option Literal → ℕ
code None = 0
code (Some x) = x.0

-- a literal has another variable than the one that may be there
pub other_variable : (o : Option Literal) (y : ℕ) → 2 ≤ y → IfSome o (λ x. y / 2 ≢ x.0 / 2) → y / 2 ≡ code o / 2 → ⊥
other_variable None y l ne e = omega arith
other_variable (Some x) y l ne e = ne e

-- k literals of a clause from i on are false or u, which is 0 or free
pub record Looked (values arena : List ℕ) (i k u : ℕ) : Type 0 where
  pub each : (j : ℕ) → j < k → (get_or arena (i + j) 0 ≡ u → ⊥) → False values (get_or arena (i + j) 0)
  pub unit : (u ≡ 0 → ⊥) → Free values u

-- one literal more: it is u, it is false, or it is the first that is free
module _ (values arena : List ℕ) (i k u : ℕ) (was : Looked values arena i k u) where
  looked_as : (v : ℕ) → v ≡ u → Looked values arena i (k + 1) u → Looked values arena i (k + 1) v
  looked_as v e l = subst (Looked values arena i (k + 1)) (sym e) l

  pub looked_again : (v : ℕ) → v ≡ u → get_or arena (i + k) 0 ≡ u → Looked values arena i (k + 1) v
  looked_again v e same = looked_as v e (record {
    each = λ j l ne. ⊎_elim (λ q. absurd (ne (ap (λ (p : ℕ). get_or arena (i + p) 0) q ∙ same))) (λ nq. was.each j (omega arith) ne) (cases_eq j k);
    unit = was.unit;
  })

  pub looked_false : (v : ℕ) → v ≡ u → False values (get_or arena (i + k) 0) → Looked values arena i (k + 1) v
  looked_false v e f = looked_as v e (record {
    each = λ j l ne. ⊎_elim (λ q. subst (λ p. False values (get_or arena (i + p) 0)) (sym q) f) (λ nq. was.each j (omega arith) ne) (cases_eq j k);
    unit = was.unit;
  })

pub looked_free : (ws values arena : List ℕ) (i n k u v : ℕ) → Clause ws arena (length values) i n → k < n → u ≡ 0 → v ≡ get_or arena (i + k) 0 → get_or values (get_or arena (i + k) 0 / 2) 0 ≡ 0 → Looked values arena i k u → Looked values arena i (k + 1) v
looked_free ws values arena i n k u v cl b z e free was =
    let w = cl.words k b in
    subst (Looked values arena i (k + 1)) (sym e) (record {
      each = λ j l ne. ⊎_elim
          (λ q. absurd (ne (ap (λ (p : ℕ). get_or arena (i + p) 0) q)))
          (λ nq. was.each j (omega arith) (λ q. omega (arith, (cl.words j (omega arith)).lit)))
          (cases_eq j k);
      unit = λ _. record { fits = w.half; free = free; lit = w.lit };
    })

-- the whole clause
module _ (ws values arena : List ℕ) (i n u : ℕ) (own : Own values) (cl : Clause ws arena (length values) i n) (l : Looked values arena i n u) where
  looked_holds : (s : ℕ → Bool) → Agrees s values → Model s ws → (u ≡ 0 → ⊥) × (lit_truth s u ≡ true)
  looked_holds s a m =
      let h = cl.follows s m in
      let w = cl.words h.at h.below in
      ⊎_elim
      (λ e. (λ z. omega (arith, w.lit, e, z), ap (lit_truth s) (sym e) ∙ h.holds))
      (λ ne. absurd (true≢false (sym h.holds ∙ false_in values (get_or arena (i + h.at) 0) own w.half (l.each h.at h.below ne) s a)))
      (cases_eq (get_or arena (i + h.at) 0) u)

  pub looked_clash : u ≡ 0 → Clash ws values
  looked_clash e s a m = (looked_holds s a m).0 e

  pub looked_forced : (u ≡ 0 → ⊥) → Forced ws values u
  looked_forced f = record { free = l.unit f; holds = λ s a m. (looked_holds s a m).1 }
