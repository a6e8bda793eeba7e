-- The word of a term's entry is the term's value.
use Rattle.std.proofs.Common.{◌≡◌, ℕ, ◌+◌, ◌*◌, ◌^◌, ◌<◌, min, max, Bool, true, false, cond, ◌&&◌, eqb, ◌⊎◌, List, [], ◌++◌, length, get_or, take, drop, sym, refl, ap, ◌∙◌, subst, ap₂, inl, inr, arith}
use native.Mathlib.Nat.{min-eq_left, min-eq_right, max-eq_left, max-eq_right}
use Rattle.std.proofs.lemmas.List.{append_assoc, take-append-le, take_all, drop_at, length-append}
use Rattle.std.proofs.lemmas.Bool.{cases_lt, and_parts, ltb-true, eqb-true}
use Rattle.words.specs.Words.{pick, do1, do2}
use Rattle.words.specs.declared.BinaryOp.{BinaryOp}
use Rattle.words.specs.declared.BinaryOp.TheVariants.{Add, Sub, Mul, Udiv, Urem, And, Or, Xor, Shl, Lshr, Ashr, Comp, Ult, Slt}
use Rattle.words.proofs.Laws.{do2_word}
use Rattle.terms.specs.Terms.{Term, any, con, lit, unary, binary, ite, eval}
use Rattle.terms.specs.Limits.{ok_term}
use Rattle.circuit.specs.Bits.{val, mul_bits, binary_bits, divides}
use Rattle.circuit.proofs.Numbers.{val_lt, length_bits_of, val_bits_of}
use Rattle.circuit.proofs.Products.{length_mul}
use Rattle.circuit.proofs.OperationValues.{unary_right, binary_right, ite_right}
use Rattle.encoding.specs.declared.entry.DivisionWord.{DivisionWord}
use Rattle.encoding.specs.declared.entry.DivisionWord.TheVariants.{Quotient, Remainder, Product, Other}
use Rattle.encoding.specs.declared.entry.Entry.{Entry}
use Rattle.encoding.specs.declared.entry.Entry.TheVariants.{Any, Con, Number, Unary, Binary, Ite, Divide, Part}
use Rattle.encoding.specs.Table.{place, sorted, by_divider, by_quotient, product, divided, operated, numbered}
use Rattle.encoding.specs.Values.{order, quotient_bits, remainder_bits, divide_bits, entry_bits, is_division, Operand, MadeAt, WellMade}
use Rattle.encoding.proofs.Commuting.{Commutes, add_commutes, mul_commutes, and_commutes, or_commutes, xor_commutes, comp_commutes}
use Rattle.encoding.proofs.Placing.{placed, operand_later}
use Rattle.encoding.proofs.Tables.{words, words_keep, word_is_entry, operand_long}

module _ (w : ℕ) (pos : 0 < w) (env : ℕ → List Bool) (long : (k : ℕ) → length (env k) ≡ w) where
  -- the table t became r .0, in which entry r .1 is a word with the value x
  pub record Has (t : List Entry) (r : List Entry × ℕ) (x : ℕ) : Type 0 where
    pub rest : List Entry
    pub extends : r.0 ≡ t ++ rest
    pub made : WellMade w r.0
    pub operand : Operand r.0 (length r.0) r.1
    pub is : val (get_or (words w env r.0) r.1 []) ≡ x

  abbrev pub at : List Entry → ℕ → List Bool
  at t i = get_or (words w env t) i []

  -- an entry that is placed, and no division whole
  has_entry : (t : List Entry) (e : Entry) (x : ℕ) → WellMade w t → MadeAt w t (length t) e → is_division e ≡ false → val (entry_bits w env (words w env t) e) ≡ x → Has t (place e t) x
  has_entry t e x made m f v =
      let p = placed w env t e made m in
      record { rest = p.rest; extends = p.extends; made = p.made; operand = (p.inside, ap is_division p.entry ∙ f); is = ap val p.word ∙ v }

  -- what has a value in a table has it in a longer one
  pub value_later : (t : List Entry) (r : List Entry) (u : List Entry) (i x : ℕ) → r ≡ t ++ u → Operand t (length t) i → val (at t i) ≡ x → val (at r i) ≡ x
  value_later t r u i x e o v = ap val (ap (λ s. at s i) e ∙ words_keep w env t u i o.0) ∙ v

  pub later : (t r u : List Entry) (i : ℕ) → r ≡ t ++ u → Operand t (length t) i → Operand r (length r) i
  later t r u i e o = subst (λ s. Operand s (length s) i) (sym e) (operand_later t u i o)

  module _ (t : List Entry) (made : WellMade w t) (i j : ℕ) (oi : Operand t (length t) i) (oj : Operand t (length t) j) where
    same_long : length (at t i) ≡ length (at t j)
    same_long = operand_long w env long t made i oi ∙ sym (operand_long w env long t made j oj)

    binary_value : (o : BinaryOp) → divides o ≡ false → val (binary_bits o (at t i) (at t j)) ≡ do2 w o (val (at t i)) (val (at t j))
    binary_value o d =
        let l = operand_long w env long t made i oi in
        binary_right o (at t i) (at t j) same_long (omega (arith, l, pos)) d ∙ ap (λ n. do2 n o (val (at t i)) (val (at t j))) l

    has_binary : (o : BinaryOp) → divides o ≡ false → Has t (place (Binary o i j) t) (do2 w o (val (at t i)) (val (at t j)))
    has_binary o d = has_entry t (Binary o i j) _ made (d, oi, oj) refl (binary_value o d)

  -- operands in the order of their places
  has_sorted : (t : List Entry) → WellMade w t → (i j : ℕ) → Operand t (length t) i → Operand t (length t) j → (o : BinaryOp) → divides o ≡ false → Commutes w o → Has t (place (sorted o i j) t) (do2 w o (val (at t i)) (val (at t j)))
  has_sorted t made i j oi oj o d c = elim (cases_lt i j) [
    | inl l ↦ subst (λ e. Has t (place e t) (do2 w o (val (at t i)) (val (at t j)))) (λ k. Binary o (sym (min-eq_left {n = i} {m = j} (omega arith)) k) (sym (max-eq_right {n = i} {m = j} (omega arith)) k)) (has_binary t made i j oi oj o d)
    | inr l ↦ subst (λ e. Has t (place e t) (do2 w o (val (at t i)) (val (at t j)))) (λ k. Binary o (sym (min-eq_right {n = j} {m = i} (omega arith)) k) (sym (max-eq_left {n = i} {m = j} (omega arith)) k)) (subst (Has t (place (Binary o j i) t)) (c (val (at t j)) (val (at t i))) (has_binary t made j i oj oi o d))
  ]

  -- the three words of a division
  module _ (q r m : List Bool) (lq : length q ≡ w) (lr : length r ≡ w) (lm : length m ≡ w) where
    first_part : take w (drop (0 * w) (q ++ (r ++ m))) ≡ q
    first_part = let none : 0 * w ≡ 0 = omega arith in ap (λ k. take w (drop k (q ++ (r ++ m)))) none ∙ (take-append-le w q (r ++ m) (omega arith) ∙ take_all w q (omega arith))

    second_part : take w (drop (1 * w) (q ++ (r ++ m))) ≡ r
    second_part = let one : 1 * w ≡ w = omega arith in ap (λ k. take w (drop k (q ++ (r ++ m)))) one ∙ (ap (take w) (drop_at q (r ++ m) w lq) ∙ (take-append-le w r m (omega arith) ∙ take_all w r (omega arith)))

    third_part : take w (drop (2 * w) (q ++ (r ++ m))) ≡ m
    third_part =
        ap (take w) (ap (λ xs. drop (2 * w) xs) (sym (append_assoc q r m)) ∙ drop_at (q ++ r) m (2 * w) (omega (arith, length-append q r)))
        ∙ take_all w m (omega arith)

  has_after : (t r u : List Entry) (s : List Entry × ℕ) (x : ℕ) → r ≡ t ++ u → Has r s x → Has t s x
  has_after t r u s x e h = record { rest = u ++ h.rest; extends = h.extends ∙ (ap (λ xs. xs ++ h.rest) e ∙ append_assoc t u h.rest); made = h.made; operand = h.operand; is = h.is }

  -- division
  module _ (t : List Entry) (made : WellMade w t) (i j : ℕ) (oi : Operand t (length t) i) (oj : Operand t (length t) j) where
    quotient_long : length (quotient_bits w (at t i) (at t j)) ≡ w
    quotient_long = length_bits_of w _

    remainder_long : length (remainder_bits w (at t i) (at t j)) ≡ w
    remainder_long = length_bits_of w _

    product_long : length (mul_bits (at t j) (quotient_bits w (at t i) (at t j))) ≡ w
    product_long = let l = operand_long w env long t made j oj in length_mul (at t j) (quotient_bits w (at t i) (at t j)) (l ∙ sym quotient_long) ∙ l

    word : (k : ℕ) → Operand t (length t) k → val (at t k) < 2 ^ w
    word k o = subst (λ n. val (at t k) < 2 ^ n) (operand_long w env long t made k o) (val_lt (at t k))

    val_quotient : val (quotient_bits w (at t i) (at t j)) ≡ do2 w Udiv (val (at t i)) (val (at t j))
    val_quotient = val_bits_of w _ (do2_word w Udiv (val (at t i)) (val (at t j)) pos (word i oi) (word j oj))

    val_remainder : val (remainder_bits w (at t i) (at t j)) ≡ do2 w Urem (val (at t i)) (val (at t j))
    val_remainder = val_bits_of w _ (do2_word w Urem (val (at t i)) (val (at t j)) pos (word i oi) (word j oj))

    has_divided : (p : DivisionWord) (part : List Bool) (x : ℕ) → order p < 3 → take w (drop (order p * w) (divide_bits w (at t i) (at t j))) ≡ part → val part ≡ x → Has t (divided p i j t) x
    has_divided p part x lt is v =
        let d = placed w env t (Divide i j) made (oi, oj) in
        let r = place (Divide i j) t in
        has_after t r.0 d.rest (divided p i j t) x d.extends
        (has_entry r.0 (Part r.1 p) x d.made (d.inside, lt, ap is_division d.entry) refl (ap (λ v. val (take w (drop (order p * w) v))) d.word ∙ (ap val is ∙ v)))

    has_quotient : Has t (divided Quotient i j t) (do2 w Udiv (val (at t i)) (val (at t j)))
    has_quotient = has_divided Quotient _ _ (omega arith) (first_part _ (remainder_bits w (at t i) (at t j)) _ quotient_long remainder_long product_long) val_quotient

    has_remainder : Has t (divided Remainder i j t) (do2 w Urem (val (at t i)) (val (at t j)))
    has_remainder = has_divided Remainder _ _ (omega arith) (second_part (quotient_bits w (at t i) (at t j)) _ _ quotient_long remainder_long product_long) val_remainder

  -- a product is made by itself, or it is the one of a division
  abbrev ByDivision : List Entry → ℕ → ℕ → Entry → Type 0
  ByDivision t i j e = (k : ℕ) × (x : ℕ) × (e ≡ Part k Product) × (get_or t j (Any 0) ≡ Part k Quotient) × (get_or t k (Any 0) ≡ Divide x i)

  by_divider_lem : (t : List Entry) (i j k : ℕ) (e : Entry) → get_or t k (Any 0) ≡ e → get_or t j (Any 0) ≡ Part k Quotient → (by_divider e k i j ≡ Binary Mul i j) ⊎ ByDivision t i j (by_divider e k i j)
  by_divider_lem t i j k (Any x) q h = inl refl
  by_divider_lem t i j k (Con x) q h = inl refl
  by_divider_lem t i j k (Number x) q h = inl refl
  by_divider_lem t i j k (Unary o x) q h = inl refl
  by_divider_lem t i j k (Binary o x y) q h = inl refl
  by_divider_lem t i j k (Ite c x y) q h = inl refl
  by_divider_lem t i j k (Part x p) q h = inl refl
  by_divider_lem t i j k (Divide x y) q h = go (eqb y i) refl
    where
      go : (b : Bool) → eqb y i ≡ b → (cond b (Part k Product) (Binary Mul i j) ≡ Binary Mul i j) ⊎ ByDivision t i j (cond b (Part k Product) (Binary Mul i j))
      go true s = inr (k, x, refl, h, q ∙ ap (Divide x) (eqb-true y i s))
      go false s = inl refl

  by_quotient_lem : (t : List Entry) (i j : ℕ) (e : Entry) → get_or t j (Any 0) ≡ e → (by_quotient t e i j ≡ Binary Mul i j) ⊎ ByDivision t i j (by_quotient t e i j)
  by_quotient_lem t i j (Any x) q = inl refl
  by_quotient_lem t i j (Con x) q = inl refl
  by_quotient_lem t i j (Number x) q = inl refl
  by_quotient_lem t i j (Unary o x) q = inl refl
  by_quotient_lem t i j (Binary o x y) q = inl refl
  by_quotient_lem t i j (Ite c x y) q = inl refl
  by_quotient_lem t i j (Divide x y) q = inl refl
  by_quotient_lem t i j (Part k Quotient) q = by_divider_lem t i j k (get_or t k (Any 0)) refl q
  by_quotient_lem t i j (Part k Remainder) q = inl refl
  by_quotient_lem t i j (Part k Product) q = inl refl
  by_quotient_lem t i j (Part k (Other p)) q = inl refl

  module _ (t : List Entry) (made : WellMade w t) (i j : ℕ) (oi : Operand t (length t) i) (oj : Operand t (length t) j) where
    has_shared : (k x : ℕ) → get_or t j (Any 0) ≡ Part k Quotient → get_or t k (Any 0) ≡ Divide x i → Has t (place (Part k Product) t) (do2 w Mul (val (at t i)) (val (at t j)))
    has_shared k x ej ek =
        let mj : MadeAt w t j (Part k Quotient) = subst (MadeAt w t j) ej (made j oj.0) in
        let kin : k < length t = omega (arith, mj.0, oj.0) in
        let mk : MadeAt w t k (Divide x i) = subst (MadeAt w t k) ek (made k kin) in
        let ox : Operand t (length t) x = (omega (arith, mk.0.0, kin), mk.0.1) in
        let wk : at t k ≡ divide_bits w (at t x) (at t i) = word_is_entry w env t made k kin ∙ ap (entry_bits w env (words w env t)) ek in
        let lq = quotient_long t made x i ox oi in
        let lr = remainder_long t made x i ox oi in
        let lm = product_long t made x i ox oi in
        let wj : at t j ≡ quotient_bits w (at t x) (at t i) = word_is_entry w env t made j oj.0 ∙ (ap (entry_bits w env (words w env t)) ej ∙ (ap (λ v. take w (drop (0 * w) v)) wk ∙ first_part _ _ _ lq lr lm)) in
        let m : take w (drop (2 * w) (at t k)) ≡ mul_bits (at t i) (at t j) = ap (λ v. take w (drop (2 * w) v)) wk ∙ (third_part _ _ _ lq lr lm ∙ ap (mul_bits (at t i)) (sym wj)) in
        has_entry t (Part k Product) _ made (kin, omega arith, ap is_division ek) refl (ap val m ∙ binary_value t made i j oi oj Mul refl)

    has_ordered : Has t (place (product t i j) t) (do2 w Mul (val (at t i)) (val (at t j)))
    has_ordered = elim (by_quotient_lem t i j (get_or t j (Any 0)) refl) [
      | inl e ↦ subst (λ p. Has t (place p t) (do2 w Mul (val (at t i)) (val (at t j)))) (sym e) (has_binary t made i j oi oj Mul refl)
      | inr h ↦ subst (λ p. Has t (place p t) (do2 w Mul (val (at t i)) (val (at t j)))) (sym h.2) (has_shared h.0 h.1 h.3 h.4)
    ]

  has_product : (t : List Entry) → WellMade w t → (i j : ℕ) → Operand t (length t) i → Operand t (length t) j → Has t (place (product t (min i j) (max i j)) t) (do2 w Mul (val (at t i)) (val (at t j)))
  has_product t made i j oi oj = elim (cases_lt i j) [
    | inl l ↦ subst (λ e. Has t (place e t) (do2 w Mul (val (at t i)) (val (at t j)))) (λ k. product t (sym (min-eq_left {n = i} {m = j} (omega arith)) k) (sym (max-eq_right {n = i} {m = j} (omega arith)) k)) (has_ordered t made i j oi oj)
    | inr l ↦ subst (λ e. Has t (place e t) (do2 w Mul (val (at t i)) (val (at t j)))) (λ k. product t (sym (min-eq_right {n = j} {m = i} (omega arith)) k) (sym (max-eq_left {n = i} {m = j} (omega arith)) k)) (subst (Has t (place (product t j i) t)) (mul_commutes w (val (at t j)) (val (at t i))) (has_ordered t made j i oj oi))
  ]

  has_operated : (o : BinaryOp) (t : List Entry) → WellMade w t → (i j : ℕ) → Operand t (length t) i → Operand t (length t) j → Has t (operated o i j t) (do2 w o (val (at t i)) (val (at t j)))
  has_operated Add t made i j oi oj = has_sorted t made i j oi oj Add refl (add_commutes w)
  has_operated Sub t made i j oi oj = has_binary t made i j oi oj Sub refl
  has_operated Mul t made i j oi oj = has_product t made i j oi oj
  has_operated Udiv t made i j oi oj = has_quotient t made i j oi oj
  has_operated Urem t made i j oi oj = has_remainder t made i j oi oj
  has_operated And t made i j oi oj = has_sorted t made i j oi oj And refl (and_commutes w)
  has_operated Or t made i j oi oj = has_sorted t made i j oi oj Or refl (or_commutes w)
  has_operated Xor t made i j oi oj = has_sorted t made i j oi oj Xor refl (xor_commutes w)
  has_operated Shl t made i j oi oj = has_binary t made i j oi oj Shl refl
  has_operated Lshr t made i j oi oj = has_binary t made i j oi oj Lshr refl
  has_operated Ashr t made i j oi oj = has_binary t made i j oi oj Ashr refl
  has_operated Comp t made i j oi oj = has_sorted t made i j oi oj Comp refl (comp_commutes w)
  has_operated Ult t made i j oi oj = has_binary t made i j oi oj Ult refl
  has_operated Slt t made i j oi oj = has_binary t made i j oi oj Slt refl

  module _ (a c : ℕ → ℕ) (anys : (k : ℕ) → k < 16 → val (env k) ≡ a k) (cons : (k : ℕ) → k < 16 → val (env (16 + k)) ≡ c k) where
    pub term_has_value : (e : Term) (t : List Entry) → ok_term w e ≡ true → WellMade w t → Has t (numbered e t) (eval w a c e)
    term_has_value (any k) t ok made = let l = ltb-true k 16 ok in has_entry t (Any k) _ made l refl (anys k l)
    term_has_value (con k) t ok made = let l = ltb-true k 16 ok in has_entry t (Con k) _ made l refl (cons k l)
    term_has_value (lit x) t ok made = let l = ltb-true x (2 ^ w) ok in has_entry t (Number x) _ made l refl (val_bits_of w x l)
    term_has_value (unary o x) t ok made =
        let h = term_has_value x t ok made in
        let r = numbered x t in
        let l = operand_long w env long r.0 h.made r.1 h.operand in
        has_after t r.0 h.rest _ _ h.extends (has_entry r.0 (Unary o r.1) _ h.made h.operand refl (unary_right o (at r.0 r.1) ∙ ap₂ (λ n v. do1 n o v) l h.is))
    term_has_value (binary o x y) t ok made =
        let p = and_parts (ok_term w x) (ok_term w y) ok in
        let h = term_has_value x t p.0 made in
        let r = numbered x t in
        let g = term_has_value y r.0 p.1 h.made in
        let s = numbered y r.0 in
        let oi = later r.0 s.0 g.rest r.1 g.extends h.operand in
        let vi = value_later r.0 s.0 g.rest r.1 _ g.extends h.operand h.is in
        has_after t r.0 h.rest _ _ h.extends (has_after r.0 s.0 g.rest _ _ g.extends
        (subst (Has s.0 (operated o r.1 s.1 s.0)) (ap₂ (do2 w o) vi g.is) (has_operated o s.0 g.made r.1 s.1 oi g.operand)))
    term_has_value (ite h x y) t ok made =
        let p = and_parts (ok_term w h) (ok_term w x && ok_term w y) ok in
        let q = and_parts (ok_term w x) (ok_term w y) p.1 in
        let ch = term_has_value h t p.0 made in
        let r = numbered h t in
        let ah = term_has_value x r.0 q.0 ch.made in
        let s = numbered x r.0 in
        let bh = term_has_value y s.0 q.1 ah.made in
        let u = numbered y s.0 in
        let oc1 = later r.0 s.0 ah.rest r.1 ah.extends ch.operand in
        let vc1 = value_later r.0 s.0 ah.rest r.1 _ ah.extends ch.operand ch.is in
        let oc = later s.0 u.0 bh.rest r.1 bh.extends oc1 in
        let vc = value_later s.0 u.0 bh.rest r.1 _ bh.extends oc1 vc1 in
        let oa = later s.0 u.0 bh.rest s.1 bh.extends ah.operand in
        let va = value_later s.0 u.0 bh.rest s.1 _ bh.extends ah.operand ah.is in
        let vb = bh.is in
        let la = operand_long w env long u.0 bh.made s.1 oa in
        let lb = operand_long w env long u.0 bh.made u.1 bh.operand in
        has_after t r.0 ch.rest _ _ ch.extends (has_after r.0 s.0 ah.rest _ _ ah.extends (has_after s.0 u.0 bh.rest _ _ bh.extends
        (has_entry u.0 (Ite r.1 s.1 u.1) _ bh.made (oc, oa, bh.operand) refl
        (ite_right (at u.0 r.1) (at u.0 s.1) (at u.0 u.1) (la ∙ sym lb) ∙ (λ k. pick (eqb (vc k) 0) (vb k) (va k))))))
