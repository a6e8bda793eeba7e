-- The clauses that state that a rule fails: met exactly where no needed term is 0 and the sides differ.
use Rattle.std.proofs.Common.{◌≡◌, ℕ, suc, ◌+◌, ◌*◌, ◌<◌, ◌≤◌, Bool, true, List, [], ◌∷◌, ◌++◌, map, length, get_or, sym, refl, ap, ◌∙◌, subst, ap₂, inl, inr, mul-le-mul_right, add-mul, arith}
use Rattle.std.proofs.lemmas.List.{length-append}
use Rattle.std.proofs.lemmas.Bool.{cases_eq}
use Rattle.clauses.specs.declared.literal.Literal.{Literal}
use Rattle.clauses.specs.Flat.{Model}
use Rattle.terms.specs.Terms.{Term, eval, Met}
use Rattle.circuit.specs.Bits.{val}
use Rattle.circuit.specs.declared.gates.Bitwise.TheVariants.{Exclusive}
use Rattle.circuit.specs.Circuits.{bitwise_net}
use Rattle.circuit.specs.Nets.{Net, said, wires}
use Rattle.circuit.specs.Meaning.{truth_of, Agree, WordBelow, Whole, Spells}
use Rattle.circuit.proofs.Models.{some, truth_agree, said_parts, said_both, said_well, said_below}
use Rattle.circuit.proofs.NewWords.{wires_below}
use Rattle.circuit.proofs.WordMeaning.{bitwise_makes}
use Rattle.encoding.specs.declared.entry.Entry.{Entry}
use Rattle.encoding.specs.Encode.{stated_net, name_bits, Named}
use Rattle.encoding.specs.Values.{Operand, WellMade}
use Rattle.encoding.proofs.AllTerms.{AllHave}
use Rattle.encoding.proofs.Differing.{some_positive, positive_some, bits_differ_values_differ, values_differ_bits_differ}
use Rattle.encoding.proofs.TableNets.{bits_at, length_names}
use Rattle.encoding.proofs.Tables.{operand_long}

-- a clause more keeps a net whole, and its words
module _ (n : Net) (c : List Literal) (whole : Whole n) (b : WordBelow n.next c) where
  said_keeps : (s : ℕ → Bool) → Model s (said c n).out → Model s n.out × (some s c ≡ true)
  said_keeps s h = said_parts n.next s c n whole.ends b h

  pub said_whole : Whole (said c n)
  said_whole = record {
    ends = said_well n.next c n whole.ends b;
    below = said_below n.next c n whole.below b;
    constant = λ s h. whole.constant s (said_keeps s h).0;
    begun = whole.begun;
  }

  pub said_spells : (ls : List Literal) (f : (ℕ → Bool) → List Bool) → Spells n ls f → Spells (said c n) ls f
  said_spells ls f p = record { below = p.below; means = λ s h. p.means s (said_keeps s h).0 }

nonzero : (x : ℕ) → (x ≡ 0 → ⊥) → 0 < x
nonzero x f = elim (cases_eq x 0) [ inl e ↦ absurd (f e) | inr g ↦ omega arith ]

map_agree : (v : ℕ) (s x : ℕ → Bool) → Agree v s x → (ls : List Literal) → WordBelow v ls → map (truth_of s) ls ≡ map (truth_of x) ls
map_agree v s x g [] b = refl
map_agree v s x g (l ∷ ls) b = ap₂ ◌∷◌ (truth_agree v s x g l b.0) (map_agree v s x g ls b.1)

names_agree : (w : ℕ) (s x : ℕ → Bool) (v : ℕ) → 1 + 32 * w ≤ v → Agree v s x → (k : ℕ) → k < 32 → name_bits w s k ≡ name_bits w x k
names_agree w s x v far g k l =
    let most : (k + 1) * w ≤ 32 * w = mul-le-mul_right w (omega arith) in
    map_agree v s x g (wires w (1 + k * w)) (wires_below w (1 + k * w) v (omega (arith, most, add-mul k 1 w)))

-- assignments that agree name the same words
pub named_agree : (w : ℕ) (a c : ℕ → ℕ) (s x : ℕ → Bool) → Named w a c s → (v : ℕ) → 1 + 32 * w ≤ v → Agree v s x → Named w a c x
named_agree w a c s x m v far g = record {
  anys = λ k l. ap val (sym (names_agree w s x v far g k (omega arith))) ∙ m.anys k l;
  cons = λ k l. ap val (sym (names_agree w s x v far g (16 + k) (omega arith))) ∙ m.cons k l;
}

module _ (w : ℕ) (pos : 0 < w) (t : List Entry) (made : WellMade w t) (ws : List (List Literal)) where
  -- the words of the table are words of the net
  abbrev pub AllSpelled : Net → Type 0
  AllSpelled n = (j : ℕ) → j < length t → Spells n (get_or ws j []) (bits_at w t made j)

  stated_need : (i : ℕ) (is : List ℕ) (n : Net) → 2 ≤ length is → stated_net ws (i ∷ is) n ≡ stated_net ws is (said (get_or ws i []) n)
  stated_need i [] n h = absurd (omega arith)
  stated_need i (j ∷ []) n h = absurd (omega arith)
  stated_need i (j ∷ k ∷ is) n h = refl

  module _ (a c : ℕ → ℕ) where
    -- by s the entries at these places have the values of these terms
    abbrev Valued : (s : ℕ → Bool) → Named w a c s → List ℕ → List Term → Type 0
    Valued s m is es = AllHave w pos (name_bits w s) (length_names w s) a c m.anys m.cons t is es

    has_places : (s : ℕ → Bool) (m : Named w a c s) (is : List ℕ) (es : List Term) → Valued s m is es → length is ≡ length es
    has_places s m [] [] h = refl
    has_places s m [] (e ∷ es) h = absurd h
    has_places s m (i ∷ is) [] h = absurd h
    has_places s m (i ∷ is) (e ∷ es) h = ap suc (has_places s m is es h.2)

    enough : (s : ℕ → Bool) (m : Named w a c s) (is : List ℕ) (needs : List Term) (from to : Term) → Valued s m is (needs ++ (from ∷ to ∷ [])) → 2 ≤ length is
    enough s m is needs from to h = omega (arith, has_places s m is (needs ++ (from ∷ to ∷ [])) h, length-append needs (from ∷ to ∷ []))

    -- the value of an entry's word
    word_value : (n : Net) (s : ℕ → Bool) → AllSpelled n → Model s n.out → (i x : ℕ) → Operand t (length t) i → val (bits_at w t made i s) ≡ x → val (map (truth_of s) (get_or ws i [])) ≡ x
    word_value n s sp h i x o v = ap val ((sp i o.0).means s h) ∙ v

    sides_long : (s : ℕ → Bool) (i j : ℕ) → Operand t (length t) i → Operand t (length t) j → length (bits_at w t made i s) ≡ length (bits_at w t made j s)
    sides_long s i j oi oj = operand_long w (name_bits w s) (length_names w s) t made i oi ∙ sym (operand_long w (name_bits w s) (length_names w s) t made j oj)

    -- what meets the clauses makes the rule fail
    pub stated_fails : (s : ℕ → Bool) (m : Named w a c s) (is : List ℕ) (needs : List Term) (from to : Term) (n : Net) → Valued s m is (needs ++ (from ∷ to ∷ [])) → Whole n → AllSpelled n → Model s (stated_net ws is n).out → Model s n.out × Met w a c needs × (eval w a c from ≡ eval w a c to → ⊥)
    stated_fails s m [] [] from to n v whole sp h = absurd v
    stated_fails s m (i ∷ []) [] from to n v whole sp h = absurd v.2
    stated_fails s m (i ∷ j ∷ k ∷ is) [] from to n v whole sp h = absurd v.2.2
    stated_fails s m (i ∷ j ∷ []) [] from to n v whole sp h =
        let d = bitwise_net Exclusive (get_or ws i []) (get_or ws j []) n in
        let mk = bitwise_makes Exclusive whole (sp i v.0.0) (sp j v.2.0.0) in
        let k = said_parts d.0.next s d.1 d.0 (mk.defines.whole whole).ends mk.spells.below h in
        let differ = subst (λ bs. 0 < val bs) (mk.spells.means s k.0) (some_positive s d.1 k.1) in
        (mk.defines.keeps s whole k.0, tt, λ e. bits_differ_values_differ (bits_at w t made i s) (bits_at w t made j s) (sides_long s i j v.0 v.2.0) differ (v.1 ∙ (e ∙ sym v.2.1)))
    stated_fails s m [] (e ∷ needs) from to n v whole sp h = absurd v
    stated_fails s m (i ∷ is) (e ∷ needs) from to n v whole sp h =
        let c = get_or ws i [] in
        let b = (sp i v.0.0).below in
        let g = subst (λ p. Model s p.out) (stated_need i is n (enough s m is needs from to v.2)) h in
        let r = stated_fails s m is needs from to (said c n) v.2 (said_whole n c whole b) (λ j l. said_spells n c whole b (get_or ws j []) (bits_at w t made j) (sp j l)) g in
        let k = said_keeps n c whole b s r.0 in
        (k.0, ((λ z. omega (arith, some_positive s c k.1, word_value n s sp k.0 i _ v.0 v.1, z)), r.1), r.2)

    -- where the rule fails, the clauses are met
    pub fails_stated : (s : ℕ → Bool) (m : Named w a c s) (is : List ℕ) (needs : List Term) (from to : Term) (n : Net) → ((x : ℕ → Bool) (k : Named w a c x) → Valued x k is (needs ++ (from ∷ to ∷ []))) → Whole n → 1 + 32 * w ≤ n.next → AllSpelled n → Model s n.out → Met w a c needs → (eval w a c from ≡ eval w a c to → ⊥) → (x : ℕ → Bool) × Model x (stated_net ws is n).out
    fails_stated s m [] [] from to n v whole far sp h met f = absurd (v s m)
    fails_stated s m (i ∷ []) [] from to n v whole far sp h met f = absurd (v s m).2
    fails_stated s m (i ∷ j ∷ k ∷ is) [] from to n v whole far sp h met f = absurd (v s m).2.2
    fails_stated s m (i ∷ j ∷ []) [] from to n v whole far sp h met f =
        let d = bitwise_net Exclusive (get_or ws i []) (get_or ws j []) n in
        let o = v s m in
        let mk = bitwise_makes Exclusive whole (sp i o.0.0) (sp j o.2.0.0) in
        let e = mk.defines.extends whole s h in
        let x = e.0 in
        let u = v x (named_agree w a c s x m n.next far e.1) in
        let differ : 0 < val (map (truth_of x) d.1) = subst (λ bs. 0 < val bs) (sym (mk.spells.means x e.2)) (values_differ_bits_differ (bits_at w t made i x) (bits_at w t made j x) (sides_long x i j u.0 u.2.0) (λ q. f (sym u.1 ∙ (q ∙ u.2.1)))) in
        (x, said_both d.0.next x d.1 d.0 (mk.defines.whole whole).ends mk.spells.below e.2 (positive_some x d.1 differ))
    fails_stated s m [] (e ∷ needs) from to n v whole far sp h met f = absurd (v s m)
    fails_stated s m (i ∷ is) (e ∷ needs) from to n v whole far sp h met f =
        let c = get_or ws i [] in
        let o = v s m in
        let b = (sp i o.0.0).below in
        let g = said_both n.next s c n whole.ends b h (positive_some s c (nonzero (val (map (truth_of s) c)) (λ z. met.0 (sym (word_value n s sp h i _ o.0 o.1) ∙ z)))) in
        let r = fails_stated s m is needs from to (said c n) (λ x k. (v x k).2) (said_whole n c whole b) far (λ j l. said_spells n c whole b (get_or ws j []) (bits_at w t made j) (sp j l)) g met.1 f in
        (r.0, subst (λ p. Model r.0 p.out) (sym (stated_need i is n (enough s m is needs from to o.2))) r.1)
