-- A learned clause takes in all that is marked, and so follows.
use Rattle.std.proofs.Common.{◌≡◌, ℕ, zero, suc, ◌+◌, ◌-◌, ◌/◌, ◌<◌, ◌≤◌, Bool, false, ◌⊎◌, List, length, get_or, set, sym, ap, ◌∙◌, subst, inl, inr, ⊎_elim, zero-add, arith, length-set, get_or-set_other}
use Rattle.std.proofs.lemmas.Bool.{cases_eq, cases_Bool}
use Rattle.clauses.specs.Flat.{lit_truth, Model}
use Rattle.kernel.specs.Trail.{False, Own}
use Rattle.kernel.specs.Arena.{Word, Has}
use Rattle.kernel.specs.Resolve.{Blames, Covered}
use Rattle.kernel.proofs.Marking.{Marked}
use Rattle.kernel.proofs.Truth.{opposite_true}
use Rattle.kernel.proofs.Zeros.{zeros_free, zeros_most, zeros_full}

-- what is marked still, and the first i literals
pub record Covering (ws values seen lits : List ℕ) (i marks : ℕ) : Type 0 where
  pub marked : Marked values seen marks
  pub words : (j : ℕ) → j < i → Word (length values) (get_or lits j 0)
  pub core : (s : ℕ → Bool) → Blames s values seen → ((j : ℕ) → j < i → lit_truth s (get_or lits j 0) ≡ false) → Model s ws → ⊥

-- one is true, or all are false
pub some_or_none : (s : ℕ → Bool) (arena : List ℕ) (i n : ℕ) → Has s arena i n ⊎ ((j : ℕ) → j < n → lit_truth s (get_or arena (i + j) 0) ≡ false)
some_or_none s arena i zero = inr (λ j l. absurd (omega arith))
some_or_none s arena i (suc n) =
    ⊎_elim
    (λ h. inl (record { at = h.at; below = omega (arith, h.below); holds = h.holds }))
    (λ none. ⊎_elim
    (λ t. inl (record { at = n; below = omega arith; holds = t }))
    (λ f. inr (λ j l. ⊎_elim (λ e. ap (λ (p : ℕ). lit_truth s (get_or arena (i + p) 0)) e ∙ f) (λ ne. none j (omega arith)) (cases_eq j n)))
    (cases_Bool (lit_truth s (get_or arena (i + n) 0))))
    (some_or_none s arena i n)

module _ (ws values seen lits : List ℕ) (i marks : ℕ) (was : Covering ws values seen lits i marks) (w : Word (length values) (get_or lits i 0)) where
  all_words : (j : ℕ) → j < i + 1 → Word (length values) (get_or lits j 0)
  all_words j l = ⊎_elim (λ e. subst (λ p. Word (length values) (get_or lits p 0)) (sym e) w) (λ ne. was.words j (omega arith)) (cases_eq j i)

  pub cover_skip : Covering ws values seen lits (i + 1) marks
  cover_skip = record { marked = was.marked; words = all_words; core = λ s all no m. was.core s all (λ j l. no j (omega arith)) m }

  module _ (own : Own values) (f : False values (get_or lits i 0)) (on : get_or seen (get_or lits i 0 / 2) 0 ≡ 0 → ⊥) where
    cover_fits : get_or lits i 0 / 2 < length seen
    cover_fits = omega (arith, w.half, was.marked.long)

    pub cover_left : 1 ≤ marks
    cover_left = omega (arith, zeros_free seen (get_or lits i 0 / 2) cover_fits on, was.marked.counted, zeros_most (set seen (get_or lits i 0 / 2) 0), length-set seen (get_or lits i 0 / 2) 0)

    pub cover_clear : Covering ws values (set seen (get_or lits i 0 / 2) 0) lits (i + 1) (marks - 1)
    cover_clear =
        let y : ℕ = get_or lits i 0 in
        let h : ℕ = y / 2 in
        let left = cover_left in
        record {
          marked = record {
            long = length-set seen h 0 ∙ was.marked.long;
            counted = omega (arith, zeros_free seen h cover_fits on, length-set seen h 0, was.marked.counted);
          };
          words = all_words;
          core = λ s all no m. was.core s
              (λ k l ne. ⊎_elim
              (λ e. ap (λ (p : ℕ). lit_truth s (get_or values p 0)) e ∙ opposite_true s y (get_or values h 0) (sym (own h w.half f.set)) (λ q. f.other (sym q)) (no i (omega arith)))
              (λ nk. all k l (λ z. ne (sym (get_or-set_other seen h k 0 0 nk) ∙ z)))
              (cases_eq k h))
              (λ j l. no j (omega arith)) m;
        }

pub covered : (ws values seen lits : List ℕ) (i marks : ℕ) → i ≡ length lits → marks ≡ 0 → Covering ws values seen lits i marks → Covered ws values seen lits
covered ws values seen lits i marks l z was =
    let clean : (k : ℕ) → k < length seen → get_or seen k 0 ≡ 0 = zeros_full seen (omega (arith, was.marked.counted)) in
    let long = was.marked.long in
    record {
      clean = λ k b. clean k (omega arith);
      clause = record {
        words = λ k b. subst (λ p. Word (length values) (get_or lits p 0)) (sym (zero-add k)) (was.words k (omega arith));
        follows = λ s m. ⊎_elim
            (λ h. h)
            (λ none. absurd (was.core s (λ k b ne. absurd (ne (clean k (omega arith)))) (λ j b. ap (λ (p : ℕ). lit_truth s (get_or lits p 0)) (sym (zero-add j)) ∙ none j (omega arith)) m))
            (some_or_none s lits 0 (length lits));
      };
    }

pub covering_as : (ws values seen seen' lits : List ℕ) (i marks marks' : ℕ) → seen' ≡ seen → marks' ≡ marks → Covering ws values seen lits i marks → Covering ws values seen' lits i marks'
covering_as ws values seen seen' lits i marks marks' es em h = subst (λ s. Covering ws values s lits i marks') (sym es) (subst (λ m. Covering ws values seen lits i m) (sym em) h)
