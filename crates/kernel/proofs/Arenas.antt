-- Clauses of the arena, and what clearing a header and widening the gap keep.
use Rattle.std.proofs.Common.{◌≡◌, ℕ, ◌+◌, ◌-◌, ◌<◌, ◌≤◌, List, length, get_or, take, drop, set, zero-add, sym, ap, ◌∙◌, subst, inl, inr, ⊎_elim, arith, length-drop, length-set, get_or-set_other, get_or-set_same}
use Rattle.std.proofs.lemmas.Bool.{cases_eq, cases_lt}
use Rattle.std.proofs.lemmas.List.{length-take-le, get_or-take, get_or-drop}
use Rattle.clauses.specs.Flat.{lit_truth}
use Rattle.kernel.specs.Arena.{head, size, Word, Clause, Headed, IsArena, Header, Follows}

-- a clause whose words are found at another place
pub clause_moved : (ws arena arena' : List ℕ) (m i i' n : ℕ) → ((k : ℕ) → k < n → get_or arena' (i' + k) 0 ≡ get_or arena (i + k) 0) → Clause ws arena m i n → Clause ws arena' m i' n
clause_moved ws arena arena' m i i' n same cl = record {
  words = λ k l. subst (Word m) (sym (same k l)) (cl.words k l);
  follows = λ s md. let h = cl.follows s md in record { at = h.at; below = h.below; holds = ap (lit_truth s) (same h.at h.below) ∙ h.holds };
}

-- a word in a clause is a literal
pub in_clause : (ws arena : List ℕ) (m low high i : ℕ) → Headed ws arena m low high i → (j : ℕ) → i < j → j ≤ i + size arena i → Word m (get_or arena j 0)
in_clause ws arena m low high i h j a b = subst (λ p. Word m (get_or arena p 0)) (omega arith) (h.clause.words (j - (i + 1)) (omega arith))

module _ (ws arena : List ℕ) (m low high : ℕ) (ar : IsArena ws arena m low high) where
  -- there is no header in the gap
  pub gap_clear : (p : ℕ) → low ≤ p → p < high → get_or arena p 0 < head
  gap_clear p a b =
      let fits = ar.fits in
      ⊎_elim (λ l. l) (λ h. absurd (omega (arith, (ar.headed p (omega arith) h).apart))) (cases_lt (get_or arena p 0) head)

  -- the gap reaches on where no header stands
  pub gap_widens : (high' : ℕ) → high ≤ high' → high' ≤ length arena → ((p : ℕ) → high ≤ p → p < high' → get_or arena p 0 < head) → IsArena ws arena m low high'
  gap_widens high' a b clear =
      let order = ar.order in
      record {
        order = omega arith;
        fits = b;
        headed = λ i l h.
            let old = ar.headed i l h in
            record {
              within = old.within;
              apart = ⊎_elim (λ under. inl under) (λ over. ⊎_elim (λ q. absurd (omega (arith, clear i over q))) (λ q. inr q) (cases_lt i high')) old.apart;
              clause = old.clause;
            };
      }

  -- over one word
  -- a reduction begins with an empty gap at the bottom
  -- a header is cleared
  module _ (c : ℕ) (hd : Header arena c) where
    pub forgotten : IsArena ws (set arena c 0) m low high
    forgotten =
        let long = length-set arena c 0 in
        let fits = ar.fits in
        record {
          order = ar.order;
          fits = omega arith;
          headed = λ i l h.
              let ne : i ≡ c → ⊥ = λ e. omega (arith, h, ap (λ (j : ℕ). get_or (set arena c 0) j 0) e, get_or-set_same arena c 0 0 hd.below) in
              let same : get_or (set arena c 0) i 0 ≡ get_or arena i 0 = get_or-set_other arena c i 0 0 ne in
              let sz : size (set arena c 0) i ≡ size arena i = ap (λ (x : ℕ). x - head) same in
              let old = ar.headed i (omega arith) (omega arith) in
              record {
                within = omega (arith, old.within, sz);
                apart = ⊎_elim (λ under. inl (omega arith)) (λ over. inr over) old.apart;
                clause = subst (Clause ws (set arena c 0) m (i + 1)) (sym sz) (clause_moved ws arena (set arena c 0) m (i + 1) (i + 1) (size arena i)
                    (λ k b. get_or-set_other arena c (i + 1 + k) 0 0 (λ e. omega (arith, hd.high, (in_clause ws arena m low high i old c (omega arith) (omega arith)).low)))
                    old.clause);
              };
        }

-- the first clause after the gap is dropped
pub dropped : (ws arena : List ℕ) (m low c : ℕ) → IsArena ws arena m low c → Header arena c → IsArena ws (set arena c 0) m low (c + 1 + size arena c)
dropped ws arena m low c ar hd =
    let home = ar.headed c hd.below hd.high in
    let within = home.within in
    let long = length-set arena c 0 in
    gap_widens ws (set arena c 0) m low c (forgotten ws arena m low c ar c hd) (c + 1 + size arena c) (omega arith) (omega arith)
    (λ p a b. ⊎_elim
    (λ e. omega (arith, ap (λ (j : ℕ). get_or (set arena c 0) j 0) e, get_or-set_same arena c 0 0 hd.below))
    (λ ne. omega (arith, get_or-set_other arena c p 0 0 ne, (in_clause ws arena m low c c home p (omega arith) (omega arith)).low))
    (cases_eq p c))

pub dropped_as : (ws arena : List ℕ) (m low c n : ℕ) → IsArena ws arena m low c → Header arena c → n ≡ size arena c → IsArena ws (set arena c 0) m low (c + 1 + n)
dropped_as ws arena m low c n ar hd e = subst (λ k. IsArena ws (set arena c 0) m low (c + 1 + k)) (sym e) (dropped ws arena m low c ar hd)

-- the literals of a clause, as a list
module _ (ws arena : List ℕ) (m low high c n : ℕ) (ar : IsArena ws arena m low high) (hd : Header arena c) (e : n ≡ size arena c) where
  pub part_length : length (take n (drop (c + 1) arena)) ≡ n
  part_length = let within = (ar.headed c hd.below hd.high).within in length-take-le n (drop (c + 1) arena) (omega (arith, length-drop (c + 1) arena))

  pub part_follows : Follows ws m (take n (drop (c + 1) arena))
  part_follows =
      subst (Clause ws (take n (drop (c + 1) arena)) m 0) (sym part_length) (clause_moved ws arena (take n (drop (c + 1) arena)) m (c + 1) 0 n
      (λ k l. ap (λ (i : ℕ). get_or (take n (drop (c + 1) arena)) i 0) (zero-add k) ∙ get_or-take n (drop (c + 1) arena) k 0 l ∙ get_or-drop (c + 1) arena k 0)
      (subst (Clause ws arena m (c + 1)) (sym e) (ar.headed c hd.below hd.high).clause))
