-- The words of a table on literals spell the words of the table on bits, and their net defines its variables.
use Rattle.std.proofs.Common.{◌≡◌, ℕ, zero, suc, ◌+◌, ◌*◌, ◌<◌, ◌≤◌, Bool, true, false, List, [], ◌∷◌, ◌++◌, map, length, get_or, take, drop, sym, refl, ap, ◌∙◌, subst, inl, inr, mul-le-mul_right, add-mul, arith}
use Rattle.std.proofs.lemmas.List.{append_assoc, append-nil, length-append, length-map, get_or_append_left, get_or_push, get_or_at}
use Rattle.std.proofs.lemmas.Bool.{cases_lt}
use Rattle.clauses.specs.declared.literal.Literal.{Literal}
use Rattle.circuit.specs.Bits.{bits_of}
use Rattle.circuit.specs.Nets.{Net, wires}
use Rattle.circuit.specs.Meaning.{truth_of, WordBelow, Whole, Defines, Spells, MakesWord}
use Rattle.circuit.proofs.Nets.{defines_none, defines_then, spells_itself, spells_later, spells_none, spells_bit, spells_as, carries_high, carries_low, makes_word_none}
use Rattle.circuit.proofs.NewWords.{length_wires, wires_below}
use Rattle.circuit.proofs.WordMeaning.{ite_makes}
use Rattle.circuit.proofs.OperationMeaning.{length_spelled, unary_makes, binary_makes}
use Rattle.circuit.proofs.DivisionMeaning.{divide_makes}
use Rattle.encoding.specs.declared.entry.Entry.{Entry}
use Rattle.encoding.specs.declared.entry.Entry.TheVariants.{Any, Con, Number, Unary, Binary, Ite, Divide, Part}
use Rattle.encoding.specs.Encode.{constant, start, entry_net, table_net, name_bits}
use Rattle.encoding.specs.Values.{order, entry_bits, Operand, MadeAt, WellMade}
use Rattle.encoding.proofs.Tables.{words, word_is_entry, operand_long}

-- parts of words
take_below : (v w : ℕ) (ls : List Literal) → WordBelow v ls → WordBelow v (take w ls)
take_below v zero ls b = tt
take_below v (suc w) [] b = tt
take_below v (suc w) (l ∷ ls) b = (b.0, take_below v w ls b.1)

drop_below : (v w : ℕ) (ls : List Literal) → WordBelow v ls → WordBelow v (drop w ls)
drop_below v zero ls b = b
drop_below v (suc w) [] b = tt
drop_below v (suc w) (l ∷ ls) b = drop_below v w ls b.1

map_take : {A B : Type 0} (f : A → B) (w : ℕ) (xs : List A) → map f (take w xs) ≡ take w (map f xs)
map_take f zero xs = refl
map_take f (suc w) [] = refl
map_take f (suc w) (x ∷ xs) = ap (λ r. f x ∷ r) (map_take f w xs)

map_drop : {A B : Type 0} (f : A → B) (w : ℕ) (xs : List A) → map f (drop w xs) ≡ drop w (map f xs)
map_drop f zero xs = refl
map_drop f (suc w) [] = refl
map_drop f (suc w) (x ∷ xs) = map_drop f w xs

spells_part : {n : Net} {ls : List Literal} {f : (ℕ → Bool) → List Bool} (w d : ℕ) → Spells n ls f → Spells n (take w (drop d ls)) (λ s. take w (drop d (f s)))
spells_part {n} {ls} w d p = record {
  below = take_below n.next w (drop d ls) (drop_below n.next d ls p.below);
  means = λ s h. map_take (truth_of s) w (drop d ls) ∙ ap (take w) (map_drop (truth_of s) d ls ∙ ap (drop d) (p.means s h));
}

-- a constant word
spells_constant : {n : Net} → Whole n → (bs : List Bool) → Spells n (map constant bs) (λ s. bs)
spells_constant whole [] = spells_none
spells_constant whole (true ∷ bs) = spells_bit (carries_high whole) (spells_constant whole bs)
spells_constant whole (false ∷ bs) = spells_bit (carries_low whole) (spells_constant whole bs)

pub start_whole : (w : ℕ) → Whole (start w)
start_whole w = record {
  ends = refl;
  below = ((λ f. record { literal = omega arith; variable = omega arith }), ((λ f. absurd (f refl)), tt));
  constant = λ s h. h.0;
  begun = omega arith;
}

pub length_names : (w : ℕ) (s : ℕ → Bool) (k : ℕ) → length (name_bits w s k) ≡ w
length_names w s k = length-map (wires w (1 + k * w)) (truth_of s) ∙ length_wires w (1 + k * w)

module _ (w : ℕ) (t : List Entry) (made : WellMade w t) where
  -- the bits of entry i of the table by an assignment
  abbrev pub bits_at : ℕ → (ℕ → Bool) → List Bool
  bits_at i s = get_or (words w (name_bits w s) t) i []

  -- the first i entries are words of the net n
  pub record Spelled (n : Net) (ws : List (List Literal)) (i : ℕ) : Type 0 where
    pub defines : Defines (start w) n
    pub size : length ws ≡ i
    pub spells : (j : ℕ) → j < i → Spells n (get_or ws j []) (bits_at j)

  module _ (n : Net) (ws : List (List Literal)) (i : ℕ) (le : i ≤ length t) (so : Spelled n ws i) where
    whole : Whole n
    whole = so.defines.whole (start_whole w)

    -- a word is as long as its bits, since some assignment meets the net
    pub operand_size : (j : ℕ) → Operand t i j → length (get_or ws j []) ≡ w
    operand_size j o =
        let x = so.defines.extends (start_whole w) (λ v. true) (refl, tt) in
        let s = x.0 in
        sym (length_spelled (so.spells j o.0) s x.2) ∙ operand_long w (name_bits w s) (length_names w s) t made j (omega (arith, o.0), o.1)

    names_make : (k : ℕ) → k < 32 → MakesWord n (n, wires w (1 + k * w)) (λ s. name_bits w s k)
    names_make k m =
        let most : (k + 1) * w ≤ 32 * w = mul-le-mul_right w (omega arith) in
        makes_word_none (spells_itself (wires_below w (1 + k * w) n.next (omega (arith, so.defines.grows, most, add-mul k 1 w))))

    entry_makes : (e : Entry) → MadeAt w t i e → MakesWord n (entry_net w ws e n) (λ s. entry_bits w (name_bits w s) (words w (name_bits w s) t) e)
    entry_makes (Any k) m = names_make k (omega arith)
    entry_makes (Con k) m = names_make (16 + k) (omega arith)
    entry_makes (Number x) m = makes_word_none (spells_constant whole (bits_of w x))
    entry_makes (Unary o j) m = unary_makes o whole (so.spells j m.0)
    entry_makes (Binary o j k) m = binary_makes whole (so.spells j m.1.0) (so.spells k m.2.0) o
    entry_makes (Ite h j k) m = ite_makes whole (so.spells h m.0.0) (so.spells j m.1.0) (so.spells k m.2.0)
    entry_makes (Divide j k) m = divide_makes whole (operand_size j m.0) (operand_size k m.1) (so.spells j m.0.0) (so.spells k m.1.0)
    entry_makes (Part k p) m = makes_word_none (spells_part w (order p * w) (so.spells k m.0))

    pub one_more : i < length t → (e : Entry) → get_or t i (Any 0) ≡ e → Spelled (entry_net w ws e n).0 (ws ++ ((entry_net w ws e n).1 ∷ [])) (i + 1)
    one_more lt e is =
        let r = entry_net w ws e n in
        let mk = entry_makes e (subst (MadeAt w t i) is (made i lt)) in
        record {
          defines = defines_then so.defines mk.defines;
          size = length-append ws (r.1 ∷ []) ∙ omega (arith, so.size);
          spells = λ j h. elim (cases_lt j i) [
            | inl l ↦ subst (λ ls. Spells r.0 ls (bits_at j)) (sym (get_or_append_left ws (r.1 ∷ []) [] j (omega (arith, so.size)))) (spells_later whole mk.defines (so.spells j l))
            | inr l ↦
                let q : i ≡ j = omega arith in
                subst (λ k. Spells r.0 (get_or (ws ++ (r.1 ∷ [])) k []) (bits_at k)) q
                (subst (λ ls. Spells r.0 ls (bits_at i)) (sym (get_or_push ws r.1 [] i so.size))
                (spells_as (λ s h. ap (entry_bits w (name_bits w s) (words w (name_bits w s) t)) (sym is) ∙ sym (word_is_entry w (name_bits w s) t made i lt)) mk.spells))
          ];
        }

  pub table_spelled : (front es : List Entry) (ws : List (List Literal)) (n : Net) → front ++ es ≡ t → Spelled n ws (length front) → Spelled (table_net w es ws n).0 (table_net w es ws n).1 (length t)
  table_spelled front [] ws n e so = subst (Spelled n ws) (ap length (sym (append-nil front) ∙ e)) so
  table_spelled front (x ∷ es) ws n e so =
      let lt : length front < length t = subst (λ k. length front < k) (ap length e) (omega (arith, length-append front (x ∷ es))) in
      let is : get_or t (length front) (Any 0) ≡ x = ap (λ xs. get_or xs (length front) (Any 0)) (sym e) ∙ get_or_at front x es (Any 0) (length front) refl in
      let r = entry_net w ws x n in
      table_spelled (front ++ (x ∷ [])) es (ws ++ (r.1 ∷ [])) r.0 (append_assoc front (x ∷ []) es ∙ e)
      (subst (Spelled r.0 (ws ++ (r.1 ∷ []))) (sym (length-append front (x ∷ []))) (one_more n ws (length front) (omega arith) so lt x is))

  pub all_spelled : Spelled (table_net w t [] (start w)).0 (table_net w t [] (start w)).1 (length t)
  all_spelled = table_spelled [] t [] (start w) refl (record { defines = defines_none (start w); size = refl; spells = λ j h. absurd (omega arith) })
