-- The clauses and variables of a rule are few by its weight.
use Rattle.std.proofs.Common.{◌≡◌, ℕ, suc, ◌+◌, ◌*◌, ◌<◌, ◌≤◌, true, List, [], ◌∷◌, ◌++◌, length, get_or, sym, refl, ap, ◌∙◌, subst, suc-mul, mul-one, mul-add, arith}
use Rattle.std.proofs.lemmas.List.{append_assoc, length-append, get_or_at}
use Rattle.words.specs.Words.{bits}
use Rattle.words.proofs.Laws.{bits_le}
use Rattle.words.specs.declared.Width.{Width}
use Rattle.words.specs.declared.Width.TheVariants.{W8, W16, W32, W64}
use Rattle.clauses.specs.declared.literal.Literal.{Literal}
use Rattle.terms.specs.Limits.{ok_rule}
use Rattle.terms.specs.Terms.{Term, Rule, terms, load_all, weight}
use Rattle.terms.proofs.Weights.{few_needs}
use Rattle.circuit.specs.declared.gates.Bitwise.{Bitwise}
use Rattle.circuit.specs.declared.gates.Bitwise.TheVariants.{Exclusive}
use Rattle.circuit.specs.Circuits.{bit_net, bitwise_net}
use Rattle.circuit.specs.Nets.{Net, said}
use Rattle.circuit.specs.Sizes.{Grows}
use Rattle.circuit.proofs.Sizes.{grows_none, said_grows, bitwise_grows, unary_grows, binary_grows, ite_grows, divide_grows}
use Rattle.encoding.specs.declared.entry.Entry.{Entry}
use Rattle.encoding.specs.declared.entry.Entry.TheVariants.{Any, Con, Number, Unary, Binary, Ite, Divide, Part}
use Rattle.encoding.specs.Encode.{start, entry_net, table_net, stated_net, encode}
use Rattle.encoding.specs.Sizes.{entry_load, table_load}
use Rattle.encoding.specs.Table.{numbered, numbered_all}
use Rattle.encoding.specs.Values.{MadeAt, WellMade}
use Rattle.circuit.proofs.Nets.{defines_none}
use Rattle.encoding.proofs.AllTerms.{Operands}
use Rattle.encoding.proofs.Encoding.{table_made, places_operands}
use Rattle.encoding.proofs.TableNets.{Spelled, operand_size, one_more, all_spelled}
use Rattle.encoding.proofs.TableSizes.{terms_load}

module _ (w : ℕ) (two : 2 ≤ w) (few : w ≤ 64) (t : List Entry) (made : WellMade w t) where
  entry_grows : (n : Net) (ws : List (List Literal)) (i : ℕ) → i ≤ length t → Spelled w t made n ws i → (e : Entry) → MadeAt w t i e → Grows n (entry_net w ws e n).0 (4 * entry_load w e) (entry_load w e)
  entry_grows n ws i le so (Any k) m = grows_none n _ _
  entry_grows n ws i le so (Con k) m = grows_none n _ _
  entry_grows n ws i le so (Number x) m = grows_none n _ _
  entry_grows n ws i le so (Unary o j) m =
      let l = operand_size w t made n ws i le so j m in
      let g = unary_grows w two few (get_or ws j []) (get_or ws j []) l l o n in
      record { written = omega (arith, g.written); made = g.made }
  entry_grows n ws i le so (Binary o j k) m = binary_grows w two few (get_or ws j []) (get_or ws k []) (operand_size w t made n ws i le so j m.1) (operand_size w t made n ws i le so k m.2) o n
  entry_grows n ws i le so (Ite h j k) m =
      let g = ite_grows w two few (get_or ws j []) (get_or ws k []) (operand_size w t made n ws i le so j m.1) (operand_size w t made n ws i le so k m.2) (get_or ws h []) (operand_size w t made n ws i le so h m.0) n in
      record { written = omega (arith, g.written); made = g.made }
  entry_grows n ws i le so (Divide j k) m =
      let g = divide_grows w two few (get_or ws j []) (get_or ws k []) (operand_size w t made n ws i le so j m.0) (operand_size w t made n ws i le so k m.1) n in
      record { written = omega (arith, g.written); made = g.made }
  entry_grows n ws i le so (Part k p) m = grows_none n _ _

  table_grows : (front es : List Entry) (ws : List (List Literal)) (n : Net) → front ++ es ≡ t → Spelled w t made n ws (length front) → Grows n (table_net w es ws n).0 (4 * table_load w es) (table_load w es)
  table_grows front [] ws n e so = grows_none n _ _
  table_grows front (x ∷ es) ws n e so =
      let lt : length front < length t = subst (λ k. length front < k) (ap length e) (omega (arith, length-append front (x ∷ es))) in
      let is : get_or t (length front) (Any 0) ≡ x = ap (λ xs. get_or xs (length front) (Any 0)) (sym e) ∙ get_or_at front x es (Any 0) (length front) refl in
      let r = entry_net w ws x n in
      let g = entry_grows n ws (length front) (omega arith) so x (subst (MadeAt w t (length front)) is (made (length front) lt)) in
      let h = table_grows (front ++ (x ∷ [])) es (ws ++ (r.1 ∷ [])) r.0 (append_assoc front (x ∷ []) es ∙ e)
      (subst (Spelled w t made r.0 (ws ++ (r.1 ∷ []))) (sym (length-append front (x ∷ []))) (one_more w t made n ws (length front) (omega arith) so lt x is)) in
      record { written = omega (arith, g.written, h.written); made = omega (arith, g.made, h.made) }

  bitwise_long : (o : Bitwise) (xs ys : List Literal) (n : Net) → length (bitwise_net o xs ys n).1 ≤ length xs
  bitwise_long o [] ys n = omega arith
  bitwise_long o (x ∷ xs) [] n = omega arith
  bitwise_long o (x ∷ xs) (y ∷ ys) n = omega (arith, bitwise_long o xs ys (bit_net o x y n).0)

  -- the words at these places are w bits long
  abbrev Long : List (List Literal) → List ℕ → Type 0
  Long ws [] = Unit {0}
  Long ws (i ∷ is) = (length (get_or ws i []) ≡ w) × Long ws is

  operands_long : (is : List ℕ) → Operands t is → Long (table_net w t [] (start w)).1 is
  operands_long [] o = tt
  operands_long (i ∷ is) o = (operand_size w t made (table_net w t [] (start w)).0 (table_net w t [] (start w)).1 (length t) (omega arith) (all_spelled w t made) i o.0, operands_long is o.1)

  stated_grows : (ws : List (List Literal)) (is : List ℕ) (n : Net) → Long ws is → Grows n (stated_net ws is n) (length is * (w + 1) + 17 * w) w
  stated_grows ws [] n l = grows_none n _ _
  stated_grows ws (i ∷ []) n l = grows_none n _ _
  stated_grows ws (i ∷ j ∷ []) n l =
      let d = bitwise_net Exclusive (get_or ws i []) (get_or ws j []) n in
      let g = bitwise_grows Exclusive (get_or ws i []) (get_or ws j []) n in
      let h = said_grows d.1 d.0 in
      record { written = omega (arith, g.written, h.written, bitwise_long Exclusive (get_or ws i []) (get_or ws j []) n, l.0); made = omega (arith, g.made, h.made, l.0) }
  stated_grows ws (i ∷ j ∷ k ∷ is) n l =
      let h = said_grows (get_or ws i []) n in
      let g = stated_grows ws (j ∷ k ∷ is) (said (get_or ws i []) n) l.1 in
      record { written = omega (arith, h.written, g.written, l.0, suc-mul (suc (suc (length is))) (w + 1)); made = omega (arith, h.made, g.made) }

length_places : (es : List Term) (t : List Entry) → length (numbered_all es t).1 ≡ length es
length_places [] t = refl
length_places (e ∷ es) t = ap suc (length_places es (numbered e t).0)

module _ (r : Rule) (ok : ok_rule r ≡ true) where
  w_two : 2 ≤ bits r.width
  w_two = omega (arith, eight r.width)
    where
      eight : (x : Width) → 8 ≤ bits x
      eight W8 = omega arith
      eight W16 = omega arith
      eight W32 = omega arith
      eight W64 = omega arith

  load_terms : (w : ℕ) (es fs : List Term) → load_all w (es ++ fs) ≡ load_all w es + load_all w fs
  load_terms w [] fs = omega arith
  load_terms w (e ∷ es) fs = omega (arith, load_terms w es fs)

  places_long : Long (bits r.width) w_two (bits_le r.width) (numbered_all (terms r) []).0 (table_made r ok) (table_net (bits r.width) (numbered_all (terms r) []).0 [] (start (bits r.width))).1 (numbered_all (terms r) []).1
  places_long = operands_long (bits r.width) w_two (bits_le r.width) (numbered_all (terms r) []).0 (table_made r ok) (numbered_all (terms r) []).1 (places_operands r ok)

  pub encode_grows : Grows (start (bits r.width)) (encode r) (4 * weight r + 1098) (weight r + 64)
  encode_grows =
      let w = bits r.width in
      let made = table_made r ok in
      let t = numbered_all (terms r) [] in
      let b = table_net w t.0 [] (start w) in
      let so = all_spelled w t.0 made in
      let g = table_grows w w_two (bits_le r.width) t.0 made [] t.0 [] (start w) refl (record { defines = defines_none (start w); size = refl; spells = λ j h. absurd (omega arith) }) in
      let h = stated_grows w w_two (bits_le r.width) t.0 made b.1 t.1 b.0 places_long in
      let places : length t.1 ≡ length (terms r) = length_places (terms r) [] in
      let load = terms_load w (terms r) [] in
      let split = load_terms w r.needs (r.from ∷ r.to ∷ []) in
      let apart : length (terms r) * (w + 1) ≡ length (terms r) * w + length (terms r) = mul-add (length (terms r)) w 1 ∙ ap (λ k. length (terms r) * w + k) (mul-one (length (terms r))) in
      record {
        written = omega (arith, g.written, h.written, ap (λ k. k * (w + 1)) places, load, split, apart, length-append r.needs (r.from ∷ r.to ∷ []), few_needs r ok, bits_le r.width);
        made = omega (arith, g.made, h.made, load, split, bits_le r.width);
      }
