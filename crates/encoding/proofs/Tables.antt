-- The word of an entry is what the entry says of the words of the table; words keep when the table grows.
use Rattle.std.proofs.Common.{◌≡◌, ℕ, zero, suc, ◌+◌, ◌*◌, ◌<◌, ◌≤◌, Bool, true, false, List, [], ◌∷◌, ◌++◌, length, get_or, take, drop, sym, refl, ap, ◌∙◌, subst, ap₂, inl, inr, mul-le-mul_right, arith}
use native.Mathlib.Nat.{min-eq_left}
use Rattle.std.proofs.lemmas.List.{append_assoc, length-append, length-take, length-drop, take-append-drop, drop_more, get_or_append_left, get_or_push}
use Rattle.std.proofs.lemmas.Bool.{cases_lt, true≢false}
use Rattle.circuit.specs.Bits.{mul_bits, unary_bits, binary_bits, ite_bits}
use Rattle.circuit.proofs.Numbers.{length_bits_of}
use Rattle.circuit.proofs.Products.{length_mul}
use Rattle.circuit.proofs.OperationValues.{length_unary, length_binary, length_ite}
use Rattle.encoding.specs.declared.entry.DivisionWord.{DivisionWord}
use Rattle.encoding.specs.declared.entry.Entry.{Entry}
use Rattle.encoding.specs.declared.entry.Entry.TheVariants.{Any, Con, Number, Unary, Binary, Ite, Divide, Part}
use Rattle.encoding.specs.Values.{order, quotient_bits, remainder_bits, divide_bits, entry_bits, table_bits, is_division, Operand, MadeAt, WellMade}

module _ (w : ℕ) (env : ℕ → List Bool) where
  -- the table's own words
  abbrev pub words : List Entry → List (List Bool)
  words t = table_bits w env t []

  table_append : (es fs : List Entry) (vs : List (List Bool)) → table_bits w env (es ++ fs) vs ≡ table_bits w env fs (table_bits w env es vs)
  table_append [] fs vs = refl
  table_append (e ∷ es) fs vs = table_append es fs (vs ++ (entry_bits w env vs e ∷ []))

  pub length_table : (es : List Entry) (vs : List (List Bool)) → length (table_bits w env es vs) ≡ length vs + length es
  length_table [] vs = omega arith
  length_table (e ∷ es) vs = length_table es (vs ++ (entry_bits w env vs e ∷ [])) ∙ omega (arith, length-append vs (entry_bits w env vs e ∷ []))

  table_keeps : (es : List Entry) (vs : List (List Bool)) (i : ℕ) → i < length vs → get_or (table_bits w env es vs) i [] ≡ get_or vs i []
  table_keeps [] vs i h = refl
  table_keeps (e ∷ es) vs i h = table_keeps es (vs ++ (entry_bits w env vs e ∷ [])) i (omega (arith, length-append vs (entry_bits w env vs e ∷ []))) ∙ get_or_append_left vs (entry_bits w env vs e ∷ []) [] i h

  pub words_keep : (t u : List Entry) (i : ℕ) → i < length t → get_or (words (t ++ u)) i [] ≡ get_or (words t) i []
  words_keep t u i h = ap (λ vs. get_or vs i []) (table_append t u []) ∙ table_keeps u (words t) i (omega (arith, length_table t []))

  pub words_push : (t : List Entry) (e : Entry) → get_or (words (t ++ (e ∷ []))) (length t) [] ≡ entry_bits w env (words t) e
  words_push t e = ap (λ vs. get_or vs (length t) []) (table_append t (e ∷ []) []) ∙ get_or_push (words t) (entry_bits w env (words t) e) [] (length t) (omega (arith, length_table t []))

  -- an entry sees the words of its operands alone
  pub entry_same : (t : List Entry) (n : ℕ) (e : Entry) (us vs : List (List Bool)) → MadeAt w t n e → ((i : ℕ) → i < n → get_or us i [] ≡ get_or vs i []) → entry_bits w env us e ≡ entry_bits w env vs e
  entry_same t n (Any k) us vs m h = refl
  entry_same t n (Con k) us vs m h = refl
  entry_same t n (Number x) us vs m h = refl
  entry_same t n (Unary o i) us vs m h = ap (unary_bits o) (h i m.0)
  entry_same t n (Binary o i j) us vs m h = ap₂ (binary_bits o) (h i m.1.0) (h j m.2.0)
  entry_same t n (Ite c i j) us vs m h = (λ k. ite_bits (h c m.0.0 k) (h i m.1.0 k) (h j m.2.0 k))
  entry_same t n (Divide i j) us vs m h = ap₂ (divide_bits w) (h i m.0.0) (h j m.1.0)
  entry_same t n (Part k p) us vs m h = ap (λ v. take w (drop (order p * w) v)) (h k m.0)

  pub word_is_entry : (t : List Entry) → WellMade w t → (i : ℕ) → i < length t → get_or (words t) i [] ≡ entry_bits w env (words t) (get_or t i (Any 0))
  word_is_entry t made i lt =
      let e = get_or t i (Any 0) in
      let front = take i t in
      let long : length front ≡ i = length-take i t ∙ omega arith in
      let cut : (front ++ (e ∷ [])) ++ drop (i + 1) t ≡ t = append_assoc front (e ∷ []) (drop (i + 1) t) ∙ (ap (λ xs. front ++ xs) (sym (drop_more t i (Any 0) lt)) ∙ take-append-drop i t) in
      let more : length front < length (front ++ (e ∷ [])) = omega (arith, length-append front (e ∷ [])) in
      let here : get_or (words t) i [] ≡ entry_bits w env (words front) e = subst (λ j. get_or (words t) j [] ≡ entry_bits w env (words front) e) long (subst (λ xs. get_or (words xs) (length front) [] ≡ entry_bits w env (words front) e) cut (words_keep (front ++ (e ∷ [])) (drop (i + 1) t) (length front) more ∙ words_push front e)) in
      let old : (j : ℕ) → j < i → get_or (words front) j [] ≡ get_or (words t) j [] = λ j h. sym (subst (λ xs. get_or (words xs) j [] ≡ get_or (words front) j []) (take-append-drop i t) (words_keep front (drop i t) j (omega (arith, long)))) in
      here ∙ entry_same t i e (words front) (words t) (made i lt) old

  -- a word is w bits long, and a division three times that
  abbrev pub bits_in : Entry → ℕ
  bits_in (Any k) = w
  bits_in (Con k) = w
  bits_in (Number x) = w
  bits_in (Unary o i) = w
  bits_in (Binary o i j) = w
  bits_in (Ite h i j) = w
  bits_in (Divide i j) = w + (w + w)
  bits_in (Part k p) = w

  operand_bits : (e : Entry) → is_division e ≡ false → bits_in e ≡ w
  operand_bits (Any k) f = refl
  operand_bits (Con k) f = refl
  operand_bits (Number x) f = refl
  operand_bits (Unary o i) f = refl
  operand_bits (Binary o i j) f = refl
  operand_bits (Ite h i j) f = refl
  operand_bits (Divide i j) f = absurd (true≢false f)
  operand_bits (Part k p) f = refl

  division_bits : (e : Entry) → is_division e ≡ true → bits_in e ≡ w + (w + w)
  division_bits (Any k) f = absurd (true≢false (sym f))
  division_bits (Con k) f = absurd (true≢false (sym f))
  division_bits (Number x) f = absurd (true≢false (sym f))
  division_bits (Unary o i) f = absurd (true≢false (sym f))
  division_bits (Binary o i j) f = absurd (true≢false (sym f))
  division_bits (Ite h i j) f = absurd (true≢false (sym f))
  division_bits (Divide i j) f = refl
  division_bits (Part k p) f = absurd (true≢false (sym f))

  module _ (long : (k : ℕ) → length (env k) ≡ w) where
    part_bits : (p : DivisionWord) (v : List Bool) → order p < 3 → length v ≡ w + (w + w) → length (take w (drop (order p * w) v)) ≡ w
    part_bits p v lt e =
        let last : order p ≤ 2 = omega arith in
        let few : order p * w ≤ 2 * w = mul-le-mul_right w last in
        length-take w (drop (order p * w) v) ∙ min-eq_left (omega (arith, length-drop (order p * w) v))

    entry_width : (t : List Entry) (n : ℕ) (e : Entry) (vs : List (List Bool)) → MadeAt w t n e → ((i : ℕ) → i < n → length (get_or vs i []) ≡ bits_in (get_or t i (Any 0))) → length (entry_bits w env vs e) ≡ bits_in e
    entry_width t n (Any k) vs m h = long k
    entry_width t n (Con k) vs m h = long (16 + k)
    entry_width t n (Number x) vs m h = length_bits_of w x
    entry_width t n (Unary o i) vs m h = length_unary o (get_or vs i []) ∙ (h i m.0 ∙ operand_bits _ m.1)
    entry_width t n (Binary o i j) vs m h =
        let a = h i m.1.0 ∙ operand_bits _ m.1.1 in
        length_binary o (get_or vs i []) (get_or vs j []) (a ∙ sym (h j m.2.0 ∙ operand_bits _ m.2.1)) ∙ a
    entry_width t n (Ite c i j) vs m h =
        let a = h i m.1.0 ∙ operand_bits _ m.1.1 in
        length_ite (get_or vs c []) (get_or vs i []) (get_or vs j []) (a ∙ sym (h j m.2.0 ∙ operand_bits _ m.2.1)) ∙ a
    entry_width t n (Divide i j) vs m h =
        let y = get_or vs j [] in
        let q = quotient_bits w (get_or vs i []) y in
        let r = remainder_bits w (get_or vs i []) y in
        let b = h j m.1.0 ∙ operand_bits _ m.1.1 in
        let lq : length q ≡ w = length_bits_of w _ in
        let lr : length r ≡ w = length_bits_of w _ in
        let lp : length (mul_bits y q) ≡ w = length_mul y q (b ∙ sym lq) ∙ b in
        length-append q (r ++ mul_bits y q) ∙ omega (arith, length-append r (mul_bits y q), lq, lr, lp)
    entry_width t n (Part k p) vs m h =
        part_bits p (get_or vs k []) m.1 (h k m.0 ∙ division_bits _ m.2)

    pub word_bits : (t : List Entry) → WellMade w t → (n : ℕ) → n ≤ length t → (i : ℕ) → i < n → length (get_or (words t) i []) ≡ bits_in (get_or t i (Any 0))
    word_bits t made zero le i h = absurd (omega arith)
    word_bits t made (suc n) le i h = elim (cases_lt i n) [
      | inl l ↦ word_bits t made n (omega arith) i l
      | inr l ↦
          let e : i ≡ n = omega arith in
          ap length (word_is_entry t made i (omega arith)) ∙ entry_width t i (get_or t i (Any 0)) (words t) (made i (omega arith)) (λ j k. word_bits t made n (omega arith) j (omega arith))
    ]

    pub operand_long : (t : List Entry) → WellMade w t → (i : ℕ) → Operand t (length t) i → length (get_or (words t) i []) ≡ w
    operand_long t made i o = word_bits t made (length t) (omega arith) i o.0 ∙ operand_bits _ o.1
