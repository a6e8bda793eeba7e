-- Reading the given clauses one after another.
use Rattle.std.proofs.Common.{◌≡◌, ℕ, suc, ◌+◌, ◌-◌, ◌<◌, ◌≤◌, Bool, true, false, ◌||◌, List, ◌∷◌, length, get_or, take, drop, sym, ap, ◌∙◌, subst, ⊎_elim, zero-add, arith, length-drop}
use Rattle.std.proofs.lemmas.List.{drop_more, length-take-le, get_or-take, get_or-drop}
use Rattle.std.proofs.lemmas.Bool.{or_cases, cases_eq, true≢false}
use Rattle.clauses.specs.Flat.{lit_truth, Meets, Model, Well, Within}
use Rattle.clauses.proofs.Forms.{well_literal}
use Rattle.kernel.specs.Arena.{Has, Clause, Stored}
use Rattle.kernel.proofs.Scans.{lit_on, end_on}
use Rattle.kernel.proofs.Arenas.{clause_moved}

-- the words from start to i are literals of a clause
pub record Reading (ws : List ℕ) (start i : ℕ) : Type 0 where
  pub within : start ≤ i
  pub lits : (k : ℕ) → start ≤ k → k < i → get_or ws k 0 ≡ 0 → ⊥
  pub met : (s : ℕ → Bool) → Model s ws → Bool
  pub left : (s : ℕ → Bool) (m : Model s ws) → Meets s (met s m) (drop i ws)
  pub has : (s : ℕ → Bool) (m : Model s ws) → met s m ≡ true → Has s ws start (i - start)

pub reading_start : (ws : List ℕ) → Reading ws 0 0
reading_start ws = record { within = omega arith; lits = λ k a b. absurd (omega arith); met = λ s m. false; left = λ s m. m; has = λ s m e. absurd (true≢false (sym e)) }

module _ (ws : List ℕ) (start i : ℕ) (l : i < length ws) (was : Reading ws start i) where
  split : drop i ws ≡ get_or ws i 0 ∷ drop (i + 1) ws
  split = drop_more ws i 0 l

  pub reading_more : (get_or ws i 0 ≡ 0 → ⊥) → Reading ws start (i + 1)
  reading_more nz =
      let win = was.within in
      let up : i + 1 - start ≡ suc (i - start) = omega arith in
      let at : start + (i - start) ≡ i = omega arith in
      record {
        within = omega arith;
        lits = λ k a b. ⊎_elim (λ e. subst (λ p. get_or ws p 0 ≡ 0 → ⊥) (sym e) nz) (λ ne. was.lits k a (omega arith)) (cases_eq k i);
        met = λ s m. was.met s m || lit_truth s (get_or ws i 0);
        left = λ s m. lit_on s (was.met s m) (get_or ws i 0) (drop (i + 1) ws) nz (subst (Meets s (was.met s m)) split (was.left s m));
        has = λ s m e. ⊎_elim
            (λ b. let h = was.has s m b in record { at = h.at; below = omega (arith, h.below); holds = h.holds })
            (λ t. record { at = i - start; below = omega arith; holds = ap (λ (p : ℕ). lit_truth s (get_or ws p 0)) at ∙ t })
            (or_cases (was.met s m) (lit_truth s (get_or ws i 0)) e);
      }

  pub reading_next : get_or ws i 0 ≡ 0 → Reading ws (i + 1) (i + 1)
  reading_next z = record {
    within = omega arith;
    lits = λ k a b. absurd (omega arith);
    met = λ s m. false;
    left = λ s m. (end_on s (was.met s m) (get_or ws i 0) (drop (i + 1) ws) z (subst (Meets s (was.met s m)) split (was.left s m))).1;
    has = λ s m e. absurd (true≢false (sym e));
  }

  pub reading_has : get_or ws i 0 ≡ 0 → (s : ℕ → Bool) → Model s ws → Has s ws start (i - start)
  reading_has z s m = was.has s m (end_on s (was.met s m) (get_or ws i 0) (drop (i + 1) ws) z (subst (Meets s (was.met s m)) split (was.left s m))).0

  pub reading_clause : (m : ℕ) (part : List ℕ) → get_or ws i 0 ≡ 0 → Well false ws → Within ws m → m ≤ 1073741824 → part ≡ take (i - start) (drop start ws) → Clause ws part m 0 (length part)
  reading_clause m part z well win small e =
      let rd = was.within in
      let long : length part ≡ i - start = ap length e ∙ length-take-le (i - start) (drop start ws) (omega (arith, length-drop start ws)) in
      let same : (k : ℕ) → k < i - start → get_or part (0 + k) 0 ≡ get_or ws (start + k) 0 = λ k b.
      ap (λ (p : ℕ). get_or part p 0) (zero-add k) ∙ ap (λ p. get_or p k 0) e ∙ get_or-take (i - start) (drop start ws) k 0 b ∙ get_or-drop start ws k 0 in
      subst (Clause ws part m 0) (sym long) (clause_moved ws ws part m start 0 (i - start) same (record {
        words = λ k b.
            let at : start + k < length ws = omega arith in
            let two = well_literal false ws well (start + k) at (was.lits (start + k) (omega arith) (omega arith)) in
            let half = win (start + k) at in
            record { lit = two; half = half; low = omega (arith, two, half) };
        follows = reading_has z;
      }))

-- the clauses before start are in the arena
pub record Loaded (ws : List ℕ) (m n : ℕ) (a : Stored) (start i : ℕ) : Type 0 where
  pub reading : Reading ws start i
  pub clauses : a.clauses ≡ ws
  pub variables : a.variables ≡ m
  pub long : length a.words ≡ n
  pub low : a.low ≤ start
  pub high : a.high ≡ length a.words

pub loaded_none : (ws : List ℕ) (m n : ℕ) (a : Stored) → a.clauses ≡ ws → a.variables ≡ m → length a.words ≡ n → a.low ≡ 0 → a.high ≡ n → Loaded ws m n a 0 0
loaded_none ws m n a c v l o h = record { reading = reading_start ws; clauses = c; variables = v; long = l; low = omega arith; high = omega arith }

module _ (ws : List ℕ) (m n : ℕ) (a : Stored) (start i : ℕ) (l : i < length ws) (was : Loaded ws m n a start i) where
  -- a literal is passed over
  pub loaded_more : (a' : Stored) (start' : ℕ) → a' ≡ a → start' ≡ start → (get_or ws i 0 ≡ 0 → ⊥) → Loaded ws m n a' start' (i + 1)
  loaded_more a' start' ea es f = subst (λ b. Loaded ws m n b start' (i + 1)) (sym ea) (subst (λ s. Loaded ws m n a s (i + 1)) (sym es) (record {
    reading = reading_more ws start i l was.reading f;
    clauses = was.clauses;
    variables = was.variables;
    long = was.long;
    low = was.low;
    high = was.high;
  }))

  -- a clause is stored
  pub loaded_next : (b a' : Stored) (start' k : ℕ) → a' ≡ b → start' ≡ i + 1 → get_or ws i 0 ≡ 0 → k ≡ i - start → b.clauses ≡ a.clauses → b.variables ≡ a.variables → length b.words ≡ length a.words → b.low ≡ a.low + 1 + k → b.high ≡ a.high → Loaded ws m n a' start' (i + 1)
  loaded_next b a' start' k ea es z ek c v lw lo hi =
      let within = was.reading.within in
      let low = was.low in
      subst (λ x. Loaded ws m n x start' (i + 1)) (sym ea) (subst (λ s. Loaded ws m n b s (i + 1)) (sym es) (record {
        reading = reading_next ws start i l was.reading z;
        clauses = c ∙ was.clauses;
        variables = v ∙ was.variables;
        long = lw ∙ was.long;
        low = omega arith;
        high = hi ∙ was.high ∙ sym lw;
      }))
