-- Exchanging two literals of a clause.
use Rattle.std.proofs.Common.{◌≡◌, ℕ, ◌+◌, ◌-◌, ◌<◌, ◌≤◌, List, length, get_or, sym, ap, ◌∙◌, subst, inl, inr, ⊎_elim, arith}
use Rattle.std.proofs.lemmas.Bool.{cases_eq, cases_lt}
use Rattle.clauses.specs.Flat.{lit_truth}
use Rattle.kernel.specs.Arena.{head, size, Word, Clause, Headed, IsArena, Header}
use Rattle.kernel.proofs.Arenas.{clause_moved, in_clause}

module _ (ws arena swapped : List ℕ) (m low high c p q : ℕ) (ar : IsArena ws arena m low high) (hd : Header arena c) (pl : c < p) (pr : p ≤ c + size arena c) (ql : c < q) (qr : q ≤ c + size arena c)
    (at_p : get_or swapped p 0 ≡ get_or arena q 0) (at_q : get_or swapped q 0 ≡ get_or arena p 0) (at_other : (j : ℕ) → (j ≡ p → ⊥) → (j ≡ q → ⊥) → get_or swapped j 0 ≡ get_or arena j 0) (long : length swapped ≡ length arena) where
  home : Headed ws arena m low high c
  home = ar.headed c hd.below hd.high

  -- where each word of the clause has gone
  gone : (j : ℕ) → c < j → j ≤ c + size arena c → (k : ℕ) × (c < k) × (k ≤ c + size arena c) × (get_or swapped k 0 ≡ get_or arena j 0)
  gone j a b = ⊎_elim
      (λ e. (q, ql, qr, at_q ∙ ap (λ (i : ℕ). get_or arena i 0) (sym e)))
      (λ np. ⊎_elim (λ e. (p, pl, pr, at_p ∙ ap (λ (i : ℕ). get_or arena i 0) (sym e))) (λ nq. (j, a, b, at_other j np nq)) (cases_eq j q))
      (cases_eq j p)

  -- and whence it came
  came : (j : ℕ) → c < j → j ≤ c + size arena c → Word m (get_or swapped j 0)
  came j a b = ⊎_elim
      (λ e. subst (Word m) (sym (ap (λ (i : ℕ). get_or swapped i 0) e ∙ at_p)) (in_clause ws arena m low high c home q ql qr))
      (λ np. ⊎_elim
      (λ e. subst (Word m) (sym (ap (λ (i : ℕ). get_or swapped i 0) e ∙ at_q)) (in_clause ws arena m low high c home p pl pr))
      (λ nq. subst (Word m) (sym (at_other j np nq)) (in_clause ws arena m low high c home j a b))
      (cases_eq j q))
      (cases_eq j p)

  same_clause : Clause ws swapped m (c + 1) (size arena c)
  same_clause = record {
    words = λ k b. came (c + 1 + k) (omega arith) (omega arith);
    follows = λ s md.
        let h = home.clause.follows s md in
        let below = h.below in
        let g = gone (c + 1 + h.at) (omega arith) (omega arith) in
        let lo : c < g.0 = g.1 in
        let hi : g.0 ≤ c + size arena c = g.2 in
        let back : c + 1 + (g.0 - (c + 1)) ≡ g.0 = omega arith in
        record { at = g.0 - (c + 1); below = omega arith; holds = ap (λ (i : ℕ). lit_truth s (get_or swapped i 0)) back ∙ ap (lit_truth s) g.3 ∙ h.holds };
  }

  -- a header of another clause has neither p nor q in it
  outside : (i : ℕ) → Headed ws arena m low high i → head ≤ get_or arena i 0 → (i ≡ c → ⊥) → (j : ℕ) → i < j → j ≤ i + size arena i → c < j → j ≤ c + size arena c → ⊥
  outside i h hi ne j a b d e = ⊎_elim
      (λ left. omega (arith, hd.high, (in_clause ws arena m low high i h c left (omega arith)).low))
      (λ right. omega (arith, hi, (in_clause ws arena m low high c home i (omega arith) (omega arith)).low))
      (cases_lt i c)

  pub exchanged : IsArena ws swapped m low high
  exchanged = record {
    order = ar.order;
    fits = omega (arith, ar.fits, long);
    headed = λ i b h.
        let np : i ≡ p → ⊥ = λ e. omega (arith, h, ap (λ (j : ℕ). get_or swapped j 0) e, at_p, (in_clause ws arena m low high c home q ql qr).low) in
        let nq : i ≡ q → ⊥ = λ e. omega (arith, h, ap (λ (j : ℕ). get_or swapped j 0) e, at_q, (in_clause ws arena m low high c home p pl pr).low) in
        let same = at_other i np nq in
        let high : head ≤ get_or arena i 0 = omega arith in
        let old = ar.headed i (omega (arith, long)) high in
        let sz : size swapped i ≡ size arena i = ap (λ (x : ℕ). x - head) same in
        record {
          within = omega (arith, old.within, sz, long);
          apart = ⊎_elim (λ under. inl (omega (arith, sz))) (λ over. inr over) old.apart;
          clause = subst (Clause ws swapped m (i + 1)) (sym sz) (⊎_elim
              (λ e. subst (λ (z : ℕ). Clause ws swapped m (z + 1) (size arena z)) (sym e) same_clause)
              (λ ne. clause_moved ws arena swapped m (i + 1) (i + 1) (size arena i) (λ k b. at_other (i + 1 + k)
              (λ e. outside i old high ne (i + 1 + k) (omega arith) (omega arith) (omega arith) (omega arith))
              (λ e. outside i old high ne (i + 1 + k) (omega arith) (omega arith) (omega arith) (omega arith))) old.clause)
              (cases_eq i c));
        };
  }
