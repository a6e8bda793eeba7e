-- Storing a clause in the gap, from elsewhere or from the arena itself.
use Rattle.std.proofs.Common.{◌≡◌, ℕ, ◌+◌, ◌-◌, ◌<◌, ◌≤◌, List, length, get_or, set, zero-add, sym, refl, ap, ◌∙◌, subst, inl, inr, ⊎_elim, arith, length-set, get_or-set_other, get_or-set_same}
use Rattle.std.proofs.lemmas.Bool.{cases_eq, cases_lt}
use Rattle.std.specs.List.{CopiedTo, SameBelow, SameFrom}
use Rattle.kernel.specs.Arena.{head, size, Clause, Headed, IsArena, Overwritten, Header}
use Rattle.kernel.proofs.Arenas.{clause_moved, gap_clear}

-- the arena is as it was outside the gap, has the first k words of src from at on in it, and no header there
pub record Storing (was arena src : List ℕ) (low high at k : ℕ) : Type 0 where
  pub under : (p : ℕ) → p < low → get_or arena p 0 ≡ get_or was p 0
  pub over : (p : ℕ) → high ≤ p → get_or arena p 0 ≡ get_or was p 0
  pub put : (j : ℕ) → j < k → get_or arena (low + 1 + j) 0 ≡ get_or src (at + j) 0
  pub clear : (p : ℕ) → low ≤ p → p < high → get_or arena p 0 < head

-- one word after the other is written
pub overwritten_none : (was src : List ℕ) (a : ℕ) → Overwritten was was src a 0
overwritten_none was src a = record { put = λ j l. absurd (omega arith); below = λ p l. refl; above = λ p l. refl }

pub overwritten_more : (was words src : List ℕ) (a k x : ℕ) → a + k < length words → x ≡ get_or src k 0 → Overwritten was words src a k → Overwritten was (set words (a + k) x) src a (k + 1)
overwritten_more was words src a k x l is so_far = record {
  put = λ j b. ⊎_elim
      (λ e. ap (λ (i : ℕ). get_or (set words (a + k) x) (a + i) 0) e ∙ get_or-set_same words (a + k) x 0 l ∙ is ∙ ap (λ (i : ℕ). get_or src i 0) (sym e))
      (λ ne. get_or-set_other words (a + k) (a + j) x 0 (λ e. omega arith) ∙ so_far.put j (omega arith))
      (cases_eq j k);
  below = λ p b. get_or-set_other words (a + k) p x 0 (λ e. omega arith) ∙ so_far.below p b;
  above = λ p b. get_or-set_other words (a + k) p x 0 (λ e. omega arith) ∙ so_far.above p (omega arith);
}

-- a clause's literals are written into the gap
pub storing_put : (ws was arena src : List ℕ) (m low high : ℕ) → IsArena ws was m low high → Clause ws src m 0 (length src) → low + 1 + length src ≤ high → Overwritten was arena src (low + 1) (length src) → Storing was arena src low high 0 (length src)
storing_put ws was arena src m low high ar cl room over =
    let gap = gap_clear ws was m low high ar in
    record {
      under = λ p l. over.below p (omega arith);
      over = λ p l. over.above p (omega arith);
      put = λ j l. over.put j l ∙ ap (λ (n : ℕ). get_or src n 0) (sym (zero-add j));
      clear = λ p a b. ⊎_elim
          (λ l. omega (arith, over.below p l, gap p a b))
          (λ g. ⊎_elim
          (λ l. let j : ℕ = p - (low + 1) in let at : low + 1 + j ≡ p = omega arith in
          omega (arith, ap (λ (n : ℕ). get_or arena n 0) at, over.put j (omega arith), ap (λ (n : ℕ). get_or src n 0) (zero-add j), (cl.words j (omega arith)).low))
          (λ o. omega (arith, over.above p o, gap p a b))
          (cases_lt p (low + 1 + length src)))
          (cases_lt p (low + 1));
    }

-- the header comes last
pub stored : (ws was arena src : List ℕ) (m low high at n : ℕ) → IsArena ws was m low high → Clause ws src m at n → low + 1 + n ≤ high → length arena ≡ length was → Storing was arena src low high at n → IsArena ws (set arena low (head + n)) m (low + 1 + n) high
stored ws was arena src m low high at n ar cl room long st =
    let arena' : List ℕ = set arena low (head + n) in
    let long' = length-set arena low (head + n) in
    let fits = ar.fits in
    let here : get_or arena' low 0 ≡ head + n = get_or-set_same arena low (head + n) 0 (omega arith) in
    let sz : size arena' low ≡ n = omega (arith, here) in
    let other : (p : ℕ) → (p ≡ low → ⊥) → get_or arena' p 0 ≡ get_or arena p 0 = λ p ne. get_or-set_other arena low p (head + n) 0 ne in
    let old : (i : ℕ) → i < length arena' → head ≤ get_or arena' i 0 → get_or arena' i 0 ≡ get_or was i 0 → ((k : ℕ) → i + size was i < low → i + k < low → get_or arena' (i + k) 0 ≡ get_or was (i + k) 0) → ((k : ℕ) → high ≤ i → get_or arena' (i + k) 0 ≡ get_or was (i + k) 0) → Headed ws arena' m (low + 1 + n) high i = λ i l h same under over.
    let was-here = ar.headed i (omega arith) (omega arith) in
    let same_size : size arena' i ≡ size was i = ap (λ (x : ℕ). x - head) same in
    record {
      within = omega (arith, was-here.within, same_size);
      apart = ⊎_elim (λ u. inl (omega (arith, same_size))) (λ o. inr o) was-here.apart;
      clause = subst (Clause ws arena' m (i + 1)) (sym same_size) (clause_moved ws was arena' m (i + 1) (i + 1) (size was i)
          (λ k b.
          let at-k : i + (1 + k) ≡ i + 1 + k = omega arith in
          subst (λ (p : ℕ). get_or arena' p 0 ≡ get_or was p 0) at-k (⊎_elim (λ u. under (1 + k) u (omega arith)) (λ o. over (1 + k) o) was-here.apart))
          was-here.clause);
    } in
    let keep-under : (p : ℕ) → p < low → get_or arena' p 0 ≡ get_or was p 0 = λ p b. other p (λ e. omega arith) ∙ st.under p b in
    let keep-over : (p : ℕ) → high ≤ p → get_or arena' p 0 ≡ get_or was p 0 = λ p b. other p (λ e. omega arith) ∙ st.over p b in
    record {
      order = room;
      fits = omega arith;
      headed = λ i l h. ⊎_elim
          (λ u. old i l h (keep-under i u) (λ k _ b. keep-under (i + k) b) (λ k o. absurd (omega arith)))
          (λ nu. ⊎_elim
          (λ inside. ⊎_elim
          (λ e. subst (Headed ws arena' m (low + 1 + n) high) (sym e) (record {
            within = omega (arith, sz);
            apart = inl (omega (arith, sz));
            clause = subst (Clause ws arena' m (low + 1)) (sym sz) (clause_moved ws src arena' m at (low + 1) n (λ k b. other (low + 1 + k) (λ e. omega arith) ∙ st.put k b) cl);
          }))
          (λ ne. absurd (omega (arith, h, other i ne, st.clear i nu inside)))
          (cases_eq i low))
          (λ o. old i l h (keep-over i o) (λ k u _. absurd (omega arith)) (λ k _. keep-over (i + k) (omega arith)))
          (cases_lt i high))
          (cases_lt i low);
    }

pub dropped_clause : (ws arena : List ℕ) (m low c : ℕ) → IsArena ws arena m low c → Header arena c → Clause ws (set arena c 0) m (c + 1) (size arena c)
dropped_clause ws arena m low c ar hd = clause_moved ws arena (set arena c 0) m (c + 1) (c + 1) (size arena c) (λ k b. get_or-set_other arena c (c + 1 + k) 0 0 (λ e. omega arith)) (ar.headed c hd.below hd.high).clause

-- a clause at c of the arena itself, its header cleared, is copied down to low
module _ (ws was arena : List ℕ) (m low c n : ℕ) (ar : IsArena ws was m low (c + 1 + n)) (le : low ≤ c) (cl : Clause ws was m (c + 1) n)
    (copied : CopiedTo was arena (c + 1) (low + 1) n) (below : SameBelow was arena (low + 1)) (above : SameFrom was arena (low + 1 + n)) (long : length arena ≡ length was) where
  storing_moved : Storing was arena was low (c + 1 + n) (c + 1) n
  storing_moved =
      let gap = gap_clear ws was m low (c + 1 + n) ar in
      let put : (j : ℕ) → j < n → get_or arena (low + 1 + j) 0 ≡ get_or was (c + 1 + j) 0 = λ j l. copied (low + 1 + j) 0 (omega arith) (omega arith) ∙ ap (λ (i : ℕ). get_or was (c + 1 + i) 0) (omega arith) in
      record {
        under = λ p l. below p 0 (omega arith);
        over = λ p l. above p 0 (omega arith);
        put = put;
        clear = λ p a b. ⊎_elim
            (λ l. omega (arith, below p 0 l, gap p a b))
            (λ g. ⊎_elim
            (λ l. let j : ℕ = p - (low + 1) in let at : low + 1 + j ≡ p = omega arith in
            omega (arith, ap (λ (i : ℕ). get_or arena i 0) at, put j (omega arith), (cl.words j (omega arith)).low))
            (λ o. omega (arith, above p 0 o, gap p a b))
            (cases_lt p (low + 1 + n)))
            (cases_lt p (low + 1));
      }

  pub moved : (header : ℕ) → header ≡ head + n → IsArena ws (set arena low header) m (low + 1 + n) (c + 1 + n)
  moved header e =
      subst (λ h. IsArena ws (set arena low h) m (low + 1 + n) (c + 1 + n)) (sym e)
      (stored ws was arena was m low (c + 1 + n) (c + 1) n ar cl (omega arith) long storing_moved)

  pub moved_to : (header to : ℕ) → header ≡ head + n → to ≡ low + 1 + n → IsArena ws (set arena low header) m to (c + 1 + n)
  moved_to header to e t = subst (λ l. IsArena ws (set arena low header) m l (c + 1 + n)) (sym t) (moved header e)
