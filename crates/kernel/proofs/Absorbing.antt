-- Resolving with a clause: its variables are marked in the place of one that was.
use Rattle.std.proofs.Common.{◌≡◌, ℕ, ◌+◌, ◌-◌, ◌/◌, ◌<◌, ◌≤◌, List, length, get_or, set, sym, ap, ◌∙◌, subst, ⊎_elim, arith, length-set, get_or-set_other, get_or-set_same}
use Rattle.std.proofs.lemmas.Bool.{cases_eq}
use Rattle.kernel.specs.Trail.{False, Own}
use Rattle.kernel.specs.Arena.{Clause}
use Rattle.kernel.specs.Resolve.{Due, Counts}
use Rattle.kernel.proofs.Marking.{Marked}
use Rattle.kernel.proofs.Zeros.{zeros_fill, zeros_free, zeros_most}

-- k literals of a clause from i on are x, or false and marked
pub record Absorbing (values arena before seen : List ℕ) (i k x marks : ℕ) : Type 0 where
  pub marked : Marked values seen marks
  pub keeps : (j : ℕ) → (get_or before j 0 ≡ 0 → ⊥) → get_or seen j 0 ≡ 0 → ⊥
  pub false : (j : ℕ) → j < k → (get_or arena (i + j) 0 ≡ x → ⊥) → False values (get_or arena (i + j) 0)
  pub sees : (j : ℕ) → j < k → (get_or arena (i + j) 0 ≡ x → ⊥) → get_or seen (get_or arena (i + j) 0 / 2) 0 ≡ 0 → ⊥
  pub apart : (j : ℕ) → j < k → (get_or arena (i + j) 0 ≡ x → ⊥) → get_or arena (i + j) 0 / 2 ≡ x / 2 → ⊥

module _ (values arena before seen : List ℕ) (i k x marks : ℕ) (was : Absorbing values arena before seen i k x marks) where
  pub absorbed_skip : get_or arena (i + k) 0 ≡ x → Absorbing values arena before seen i (k + 1) x marks
  absorbed_skip e = record {
    marked = was.marked;
    keeps = was.keeps;
    false = λ j l ne. was.false j (less j l ne) ne;
    sees = λ j l ne. was.sees j (less j l ne) ne;
    apart = λ j l ne. was.apart j (less j l ne) ne;
  }
    where
      less : (j : ℕ) → j < k + 1 → (get_or arena (i + j) 0 ≡ x → ⊥) → j < k
      less j l ne = ⊎_elim (λ q. absurd (ne (ap (λ (p : ℕ). get_or arena (i + p) 0) q ∙ e))) (λ nq. omega arith) (cases_eq j k)

  module _ (f : False values (get_or arena (i + k) 0)) (a : get_or arena (i + k) 0 / 2 ≡ x / 2 → ⊥) where
    all_false : (j : ℕ) → j < k + 1 → (get_or arena (i + j) 0 ≡ x → ⊥) → False values (get_or arena (i + j) 0)
    all_false j l ne = ⊎_elim (λ q. subst (λ p. False values (get_or arena (i + p) 0)) (sym q) f) (λ nq. was.false j (omega arith) ne) (cases_eq j k)

    all_apart : (j : ℕ) → j < k + 1 → (get_or arena (i + j) 0 ≡ x → ⊥) → get_or arena (i + j) 0 / 2 ≡ x / 2 → ⊥
    all_apart j l ne = ⊎_elim (λ q. subst (λ p. get_or arena (i + p) 0 / 2 ≡ x / 2 → ⊥) (sym q) a) (λ nq. was.apart j (omega arith) ne) (cases_eq j k)

    pub absorbed_seen : (get_or seen (get_or arena (i + k) 0 / 2) 0 ≡ 0 → ⊥) → Absorbing values arena before seen i (k + 1) x marks
    absorbed_seen m = record {
      marked = was.marked;
      keeps = was.keeps;
      false = all_false;
      sees = λ j l ne. ⊎_elim (λ q. subst (λ p. get_or seen (get_or arena (i + p) 0 / 2) 0 ≡ 0 → ⊥) (sym q) m) (λ nq. was.sees j (omega arith) ne) (cases_eq j k);
      apart = all_apart;
    }

    pub absorbed_mark : get_or arena (i + k) 0 / 2 < length seen → get_or seen (get_or arena (i + k) 0 / 2) 0 ≡ 0 → Absorbing values arena before (set seen (get_or arena (i + k) 0 / 2) 1) i (k + 1) x (marks + 1)
    absorbed_mark l z =
        let h : ℕ = get_or arena (i + k) 0 / 2 in
        let raised : (j : ℕ) → (get_or seen j 0 ≡ 0 → ⊥) → get_or (set seen h 1) j 0 ≡ 0 → ⊥ = λ j ne q.
        ⊎_elim (λ e. omega (arith, ap (λ (p : ℕ). get_or (set seen h 1) p 0) e, get_or-set_same seen h 1 0 l)) (λ o. ne (sym (get_or-set_other seen h j 1 0 o) ∙ q)) (cases_eq j h) in
        record {
          marked = record {
            long = length-set seen h 1 ∙ was.marked.long;
            counted = omega (arith, zeros_fill seen h 1 l z (λ q. omega arith), length-set seen h 1, was.marked.counted);
          };
          keeps = λ j ne. raised j (was.keeps j ne);
          false = all_false;
          sees = λ j b ne. ⊎_elim
              (λ q r. omega (arith, ap (λ (p : ℕ). get_or (set seen h 1) (get_or arena (i + p) 0 / 2) 0) q, get_or-set_same seen h 1 0 l))
              (λ nq. raised (get_or arena (i + j) 0 / 2) (was.sees j (omega arith) ne))
              (cases_eq j k);
          apart = all_apart;
        }

-- the clause is absorbed, and x no longer marked
module _ (ws values arena before seen : List ℕ) (i k x marks : ℕ) (own : Own values) (cl : Clause ws arena (length values) i k) (due : Due ws values before x) (was : Absorbing values arena before seen i k x marks) where
  pub marks_left : 1 ≤ marks
  marks_left = omega (arith, zeros_free seen (x / 2) (omega (arith, due.fits, was.marked.long)) (was.keeps (x / 2) due.marked), was.marked.counted, zeros_most (set seen (x / 2) 0), length-set seen (x / 2) 0)

  pub absorbed_counted : Counts (set seen (x / 2) 0) (marks - 1)
  absorbed_counted =
      let left = marks_left in
      omega (arith, zeros_free seen (x / 2) (omega (arith, due.fits, was.marked.long)) (was.keeps (x / 2) due.marked), length-set seen (x / 2) 0, was.marked.counted)

pub absorbed_as : (values arena before seen seen' : List ℕ) (i k x marks marks' : ℕ) → seen' ≡ seen → marks' ≡ marks → Absorbing values arena before seen i k x marks → Absorbing values arena before seen' i k x marks'
absorbed_as values arena before seen seen' i k x marks marks' es em h = subst (λ s. Absorbing values arena before s i k x marks') (sym es) (subst (λ m. Absorbing values arena before seen i k x m) (sym em) h)
