-- A placed entry has the word that it says, and the table is as it was before it.
use Rattle.std.proofs.Common.{◌≡◌, ℕ, suc, ◌<◌, ◌≤◌, Bool, true, false, cond, ltb, List, [], ◌∷◌, ◌++◌, length, get_or, sym, refl, ap, ◌∙◌, subst, inl, inr, Option, Some, None, rules, arith}
use Rattle.std.proofs.lemmas.List.{append-nil, length-append, get_or_append_left, get_or_push}
use Rattle.std.specs.List.{position, position_or_len}
use Rattle.std.proofs.lemmas.List.Recursion.{is_position_or_len}
use Rattle.std.proofs.lemmas.Bool.{cases_lt, ltb-true, ltb-false}
use Rattle.encoding.specs.declared.entry.Entry.{Entry}
use Rattle.encoding.specs.declared.entry.Entry.TheVariants.{Any, Con, Number, Unary, Binary, Ite, Divide, Part}
use Rattle.encoding.specs.Table.{same, find, place}
use Rattle.encoding.specs.Values.{entry_bits, is_division, Operand, MadeAt, WellMade}
use Rattle.encoding.proofs.Tables.{words, words_push, word_is_entry}

pub find_at_most : (e : Entry) (t : List Entry) → find e t ≤ length t
find_at_most e [] = omega arith
find_at_most e (x ∷ xs) = go (same x e) (find_at_most e xs)
  where
    go : (b : Bool) → find e xs ≤ length xs → cond b 0 (suc (find e xs)) ≤ suc (length xs)
    go true h = omega arith
    go false h = omega arith

same_entry : (a b : Entry) → same a b ≡ true → a ≡ b
same_entry a b h = search rules

found : (e : Entry) (t : List Entry) → find e t < length t → get_or t (find e t) (Any 0) ≡ e
found e [] h = absurd (omega arith)
found e (x ∷ xs) h = go (same x e) refl (λ l. found e xs l) h
  where
    go : (b : Bool) → same x e ≡ b → (find e xs < length xs → get_or xs (find e xs) (Any 0) ≡ e) → cond b 0 (suc (find e xs)) < suc (length xs) → get_or (x ∷ xs) (cond b 0 (suc (find e xs))) (Any 0) ≡ e
    go true s f l = same_entry x e s
    go false s f l = f (omega arith)

-- what the code finds
find_is : (e : Entry) (t : List Entry) → find e t ≡ position_or_len (λ x. same x e) t
find_is e t = is_position_or_len (find e) (λ x. same x e) refl (λ x xs. ap (cond (same x e) 0) (omega arith)) t

position_is : (e : Entry) (t : List Entry) → position (λ x. same x e) t ≡ cond (ltb (find e t) (length t)) (Some (find e t)) None
position_is e t = ap (λ p. cond (ltb p (length t)) (Some p) None) (sym (find_is e t))

pub place_old : (e : Entry) (t : List Entry) (i : ℕ) → position (λ x. same x e) t ≡ Some i → (t ≡ (place e t).0) × (i ≡ (place e t).1) × (i < length t)
place_old e t i h = go (ltb (find e t) (length t)) refl (sym (position_is e t) ∙ h)
  where
    go : (b : Bool) → ltb (find e t) (length t) ≡ b → cond b (Some (find e t)) None ≡ Some i → (t ≡ cond b t (t ++ (e ∷ []))) × (i ≡ find e t) × (i < length t)
    go true l s = let p : find e t ≡ i = cc in (refl, sym p, omega (arith, ltb-true (find e t) (length t) l, p))
    go false l s = let z : ⊥ = cc in absurd z

pub place_new : (e : Entry) (t : List Entry) → position (λ x. same x e) t ≡ None → (t ++ (e ∷ []) ≡ (place e t).0) × (length t ≡ (place e t).1)
place_new e t h = go (ltb (find e t) (length t)) refl (sym (position_is e t) ∙ h)
  where
    go : (b : Bool) → ltb (find e t) (length t) ≡ b → ◌≡◌ {A = Option ℕ} (cond b (Some (find e t)) None) None → (t ++ (e ∷ []) ≡ cond b t (t ++ (e ∷ []))) × (length t ≡ find e t)
    go true l s = let z : ⊥ = cc in absurd z
    go false l s = (refl, omega (arith, ltb-false (find e t) (length t) l, find_at_most e t))

-- entries added change nothing before them
operand_more : (t u : List Entry) (n i : ℕ) → n ≤ length t → Operand t n i → Operand (t ++ u) n i
operand_more t u n i le o = (o.0, ap is_division (get_or_append_left t u (Any 0) i (omega (arith, o.0))) ∙ o.1)

pub made_more : (w : ℕ) (t u : List Entry) (n : ℕ) (e : Entry) → n ≤ length t → MadeAt w t n e → MadeAt w (t ++ u) n e
made_more w t u n (Any k) le m = m
made_more w t u n (Con k) le m = m
made_more w t u n (Number x) le m = m
made_more w t u n (Unary o i) le m = operand_more t u n i le m
made_more w t u n (Binary o i j) le m = (m.0, operand_more t u n i le m.1, operand_more t u n j le m.2)
made_more w t u n (Ite h i j) le m = (operand_more t u n h le m.0, operand_more t u n i le m.1, operand_more t u n j le m.2)
made_more w t u n (Divide i j) le m = (operand_more t u n i le m.0, operand_more t u n j le m.1)
made_more w t u n (Part k p) le m = (m.0, m.1, ap is_division (get_or_append_left t u (Any 0) k (omega (arith, m.0))) ∙ m.2)

made_push : (w : ℕ) (t : List Entry) (e : Entry) → WellMade w t → MadeAt w t (length t) e → WellMade w (t ++ (e ∷ []))
made_push w t e made m i lt = elim (cases_lt i (length t)) [
  | inl l ↦ subst (MadeAt w (t ++ (e ∷ [])) i) (sym (get_or_append_left t (e ∷ []) (Any 0) i l)) (made_more w t (e ∷ []) i (get_or t i (Any 0)) (omega arith) (made i l))
  | inr l ↦
      let q : length t ≡ i = omega (arith, length-append t (e ∷ [])) in
      subst (MadeAt w (t ++ (e ∷ [])) i) (sym (get_or_push t e (Any 0) i q)) (subst (λ j. MadeAt w (t ++ (e ∷ [])) j e) q (made_more w t (e ∷ []) (length t) e (omega arith) m))
]

-- operands of a table are operands of a longer one
pub operand_later : (t u : List Entry) (i : ℕ) → Operand t (length t) i → Operand (t ++ u) (length (t ++ u)) i
operand_later t u i o = let p = operand_more t u (length t) i (omega arith) o in (omega (arith, o.0, length-append t u), p.1)

module _ (w : ℕ) (env : ℕ → List Bool) where
  -- the table t became r .0, in which entry r .1 is e
  pub record Placed (t : List Entry) (r : List Entry × ℕ) (e : Entry) : Type 0 where
    pub rest : List Entry
    pub extends : r.0 ≡ t ++ rest
    pub made : WellMade w r.0
    pub inside : r.1 < length r.0
    pub entry : get_or r.0 r.1 (Any 0) ≡ e
    pub word : get_or (words w env r.0) r.1 [] ≡ entry_bits w env (words w env t) e

  pub placed : (t : List Entry) (e : Entry) → WellMade w t → MadeAt w t (length t) e → Placed t (place e t) e
  placed t e made m = go (ltb (find e t) (length t)) refl
    where
      go : (b : Bool) → ltb (find e t) (length t) ≡ b → Placed t (cond b t (t ++ (e ∷ [])), find e t) e
      go true h =
          let l = ltb-true (find e t) (length t) h in
          let q = found e t l in
          record { rest = []; extends = sym (append-nil t); made = made; inside = l; entry = q; word = word_is_entry w env t made (find e t) l ∙ ap (entry_bits w env (words w env t)) q }
      go false h =
          let q : find e t ≡ length t = omega (arith, ltb-false (find e t) (length t) h, find_at_most e t) in
          record {
            rest = e ∷ [];
            extends = refl;
            made = made_push w t e made m;
            inside = omega (arith, length-append t (e ∷ []));
            entry = get_or_push t e (Any 0) (find e t) (sym q);
            word = ap (λ i. get_or (words w env (t ++ (e ∷ []))) i []) q ∙ words_push w env t e;
          }
