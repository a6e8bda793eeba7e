-- The assignments that meet a net with one more clause are those that meet the net and the clause.
use Rattle.std.proofs.Common.{◌≡◌, ℕ, zero, suc, ◌+◌, ◌-◌, ◌/◌, ◌%◌, ◌≤◌, Bool, true, false, not, ◌&&◌, ◌||◌, eqb, List, [], ◌∷◌, ◌++◌, sym, refl, ap, ◌∙◌, subst, inl, inr, arith}
use Rattle.std.proofs.lemmas.Bool.{cases_eq, cond-true, cond-false, eq-eqb, ne_eqb, and_parts, and_from, true≢false}
use Rattle.clauses.specs.declared.literal.Literal.{Literal}
use Rattle.clauses.specs.Clauses.{signed}
use Rattle.clauses.specs.Flat.{lit_truth, Meets, Model, Well}
use Rattle.clauses.proofs.Truth.{even_truth, odd_truth, literal_meets, meets_literal}
use Rattle.clauses.proofs.Forms.{literal_well}
use Rattle.clauses.specs.Literals.{negated}
use Rattle.circuit.specs.Nets.{Net, clause, said, said_all}
use Rattle.circuit.specs.Meaning.{truth_of, Agree, Below, AllBelow, WordBelow}

-- whether a clause, and clauses, are met
abbrev pub some : (ℕ → Bool) → List Literal → Bool
some s [] = false
some s (l ∷ ls) = truth_of s l || some s ls

abbrev pub every : (ℕ → Bool) → List (List Literal) → Bool
every s [] = true
every s (c ∷ cs) = some s c && every s cs

abbrev pub ClausesBelow : ℕ → List (List Literal) → Type 0
ClausesBelow n [] = Unit {0}
ClausesBelow n (c ∷ cs) = WordBelow n c × ClausesBelow n cs

pub truth_negated : (s : ℕ → Bool) (l : Literal) → truth_of s (negated l) ≡ not (truth_of s l)
truth_negated s l = elim (cases_eq (l.0 % 2) 0) [
  | inl e ↦
      let c : (negated l).0 ≡ l.0 + 1 = cond-true (eqb (l.0 % 2) 0) (l.0 + 1) (l.0 - 1) (eq-eqb _ _ e) in
      ap (lit_truth s) c ∙ (odd_truth s (l.0 + 1) (λ q. omega arith) ∙ ap not (ap s (omega arith) ∙ sym (even_truth s l.0 e)))
  | inr f ↦
      let c : (negated l).0 ≡ l.0 - 1 = cond-false (eqb (l.0 % 2) 0) (l.0 + 1) (l.0 - 1) (ne_eqb _ _ f) in
      ap (lit_truth s) c ∙ (even_truth s (l.0 - 1) (omega arith) ∙ (sym (not_not _) ∙ ap not (ap (λ v. not (s v)) (omega arith) ∙ sym (odd_truth s l.0 f))))
]
  where
    not_not : (b : Bool) → not (not b) ≡ b
    not_not true = refl
    not_not false = refl

pub below_negated : (n : ℕ) (l : Literal) → Below n l.0 → Below n (negated l).0
below_negated n l b = elim (cases_eq (l.0 % 2) 0) [
  | inl e ↦ let c = cond-true (eqb (l.0 % 2) 0) (l.0 + 1) (l.0 - 1) (eq-eqb _ _ e) in record { literal = omega (arith, b.literal); variable = omega (arith, b.variable) }
  | inr f ↦ let c = cond-false (eqb (l.0 % 2) 0) (l.0 + 1) (l.0 - 1) (ne_eqb _ _ f) in record { literal = omega (arith, b.literal); variable = omega (arith, b.variable) }
]

-- appended clauses
well_append : (d : Bool) (xs ys : List ℕ) → Well d xs → Well false ys → Well d (xs ++ ys)
well_append d [] ys e h = subst (λ b. Well b ys) (sym e) h
well_append d (zero ∷ xs) ys w h = well_append false xs ys w h
well_append d (suc zero ∷ xs) ys w h = absurd w
well_append d (suc (suc x) ∷ xs) ys w h = well_append true xs ys w h

meets_parts : (s : ℕ → Bool) (d b : Bool) (xs ys : List ℕ) → Well d xs → (d ≡ false → b ≡ false) → Meets s b (xs ++ ys) → Meets s b xs × Meets s false ys
meets_parts s d b [] ys w f h = (tt, subst (λ c. Meets s c ys) (f w) h)
meets_parts s d b (zero ∷ xs) ys w f h = let r = meets_parts s false false xs ys w (λ e. e) h.1 in ((h.0, r.0), r.1)
meets_parts s d b (suc zero ∷ xs) ys w f h = absurd w
meets_parts s d b (suc (suc x) ∷ xs) ys w f h = meets_parts s true (b || lit_truth s (suc (suc x))) xs ys w (λ e. absurd (true≢false e)) h

meets_both : (s : ℕ → Bool) (d b : Bool) (xs ys : List ℕ) → Well d xs → (d ≡ false → b ≡ false) → Meets s b xs → Meets s false ys → Meets s b (xs ++ ys)
meets_both s d b [] ys w f g h = subst (λ c. Meets s c ys) (sym (f w)) h
meets_both s d b (zero ∷ xs) ys w f g h = (g.0, meets_both s false false xs ys w (λ e. e) g.1 h)
meets_both s d b (suc zero ∷ xs) ys w f g h = absurd w
meets_both s d b (suc (suc x) ∷ xs) ys w f g h = meets_both s true (b || lit_truth s (suc (suc x))) xs ys w (λ e. absurd (true≢false e)) g h

clause_well : (n : ℕ) (d : Bool) (c : List Literal) → WordBelow n c → Well d (clause c)
clause_well n d [] b = refl
clause_well n d (l ∷ ls) b = literal_well d l.0 (clause ls) b.0.literal (clause_well n true ls b.1)

or_moves : (b t r : Bool) → ((b || t) || r) ≡ (b || (t || r))
or_moves true t r = refl
or_moves false t r = refl

or_false : (b : Bool) → (b || false) ≡ b
or_false true = refl
or_false false = refl

positive : (x : ℕ) → 2 ≤ x → x ≡ 0 → ⊥
positive x h e = omega arith

clause_meets : (n : ℕ) (s : ℕ → Bool) (b : Bool) (c : List Literal) → WordBelow n c → Meets s b (clause c) → (b || some s c) ≡ true
clause_meets n s b [] w h = or_false b ∙ h.0
clause_meets n s b (l ∷ ls) w h = sym (or_moves b (truth_of s l) (some s ls)) ∙ clause_meets n s (b || truth_of s l) ls w.1 (meets_literal s b l.0 (clause ls) (positive l.0 w.0.literal) h)

meets_clause : (n : ℕ) (s : ℕ → Bool) (b : Bool) (c : List Literal) → WordBelow n c → (b || some s c) ≡ true → Meets s b (clause c)
meets_clause n s b [] w e = (sym (or_false b) ∙ e, tt)
meets_clause n s b (l ∷ ls) w e = literal_meets s b l.0 (clause ls) (positive l.0 w.0.literal) (meets_clause n s (b || truth_of s l) ls w.1 (or_moves b (truth_of s l) (some s ls) ∙ e))

-- a net with clauses more
module _ (v : ℕ) (s : ℕ → Bool) where
  pub said_parts : (c : List Literal) (n : Net) → Well false n.out → WordBelow v c → Model s (said c n).out → Model s n.out × (some s c ≡ true)
  said_parts c n w b h = let r = meets_parts s false false n.out (clause c) w (λ e. e) h in (r.0, clause_meets v s false c b r.1)

  pub said_both : (c : List Literal) (n : Net) → Well false n.out → WordBelow v c → Model s n.out → some s c ≡ true → Model s (said c n).out
  said_both c n w b h e = meets_both s false false n.out (clause c) w (λ e. e) h (meets_clause v s false c b e)

pub said_well : (v : ℕ) (c : List Literal) (n : Net) → Well false n.out → WordBelow v c → Well false (said c n).out
said_well v c n w b = well_append false n.out (clause c) w (clause_well v false c b)

pub all_parts : (v : ℕ) (s : ℕ → Bool) (cs : List (List Literal)) (n : Net) → Well false n.out → ClausesBelow v cs → Model s (said_all cs n).out → Model s n.out × (every s cs ≡ true)
all_parts v s [] n w b h = (h, refl)
all_parts v s (c ∷ cs) n w b h =
    let r = all_parts v s cs (said c n) (said_well v c n w b.0) b.1 h in
    let q = said_parts v s c n w b.0 r.0 in
    (q.0, and_from _ _ q.1 r.1)

pub all_both : (v : ℕ) (s : ℕ → Bool) (cs : List (List Literal)) (n : Net) → Well false n.out → ClausesBelow v cs → Model s n.out → every s cs ≡ true → Model s (said_all cs n).out
all_both v s [] n w b h e = h
all_both v s (c ∷ cs) n w b h e =
    let p = and_parts (some s c) (every s cs) e in
    all_both v s cs (said c n) (said_well v c n w b.0) b.1 (said_both v s c n w b.0 h p.0) p.1

pub all_well : (v : ℕ) (cs : List (List Literal)) (n : Net) → Well false n.out → ClausesBelow v cs → Well false (said_all cs n).out
all_well v [] n w b = w
all_well v (c ∷ cs) n w b = all_well v cs (said c n) (said_well v c n w b.0) b.1

-- variables below
pub below_lift : (n m x : ℕ) → n ≤ m → Below n x → Below m x
below_lift n m x h b = record { literal = b.literal; variable = omega (arith, b.variable) }

pub word_lift : (n m : ℕ) → n ≤ m → (ls : List Literal) → WordBelow n ls → WordBelow m ls
word_lift n m h [] b = tt
word_lift n m h (l ∷ ls) b = (below_lift n m l.0 h b.0, word_lift n m h ls b.1)

pub all_lift : (n m : ℕ) → n ≤ m → (xs : List ℕ) → AllBelow n xs → AllBelow m xs
all_lift n m h [] b = tt
all_lift n m h (x ∷ xs) b = ((λ f. below_lift n m x h (b.0 f)), all_lift n m h xs b.1)

all_append : (n : ℕ) (xs ys : List ℕ) → AllBelow n xs → AllBelow n ys → AllBelow n (xs ++ ys)
all_append n [] ys b h = h
all_append n (x ∷ xs) ys b h = (b.0, all_append n xs ys b.1 h)

clause_below : (n : ℕ) (c : List Literal) → WordBelow n c → AllBelow n (clause c)
clause_below n [] b = ((λ f. absurd (f refl)), tt)
clause_below n (l ∷ ls) b = ((λ f. b.0), clause_below n ls b.1)

pub said_below : (v : ℕ) (c : List Literal) (n : Net) → AllBelow v n.out → WordBelow v c → AllBelow v (said c n).out
said_below v c n h b = all_append v n.out (clause c) h (clause_below v c b)

pub said_all_below : (v : ℕ) (cs : List (List Literal)) (n : Net) → AllBelow v n.out → ClausesBelow v cs → AllBelow v (said_all cs n).out
said_all_below v [] n h b = h
said_all_below v (c ∷ cs) n h b = said_all_below v cs (said c n) (said_below v c n h b.0) b.1

pub said_all_next : (cs : List (List Literal)) (n : Net) → (said_all cs n).next ≡ n.next
said_all_next [] n = refl
said_all_next (c ∷ cs) n = said_all_next cs (said c n)

-- clauses don't see what lies above their variables
code_agree : (n : ℕ) (s t : ℕ → Bool) → Agree n s t → (x : ℕ) → Below n x → lit_truth s x ≡ lit_truth t x
code_agree n s t a x b = ap (signed (eqb (x % 2) 0)) (a (x / 2 - 1) (omega (arith, b.literal, b.variable)))

pub truth_agree : (n : ℕ) (s t : ℕ → Bool) → Agree n s t → (l : Literal) → Below n l.0 → truth_of s l ≡ truth_of t l
truth_agree n s t a l b = code_agree n s t a l.0 b

pub meets_agree : (n : ℕ) (s t : ℕ → Bool) → Agree n s t → (b : Bool) (xs : List ℕ) → AllBelow n xs → Meets s b xs → Meets t b xs
meets_agree n s t a b [] w h = tt
meets_agree n s t a b (zero ∷ xs) w h = (h.0, meets_agree n s t a false xs w.1 h.1)
meets_agree n s t a b (suc x ∷ xs) w h = meets_agree n s t a (b || lit_truth t (suc x)) xs w.1 (subst (λ c. Meets s (b || c) xs) (code_agree n s t a (suc x) (w.0 (λ e. omega arith))) h)
