-- A rule's clauses are met exactly by the words for its names for which it fails.
use Rattle.std.proofs.Common.{◌≡◌, ℕ, zero, suc, ◌+◌, ◌-◌, ◌*◌, ◌/◌, ◌%◌, ◌^◌, ◌<◌, Bool, true, false, cond, eqb, ltb, leb, List, [], map, length, get_or, sym, refl, ap, ◌∙◌, arith}
use lib.Arith.{digits_div, digits_mod}
use Rattle.std.proofs.lemmas.List.{ext_get_or}
use Rattle.std.proofs.lemmas.Bool.{and_parts, cond-true, cond-false, lt-ltb, le-ltb, ne_eqb}
use Rattle.words.specs.Words.{bits}
use Rattle.words.proofs.Laws.{bits_pos}
use Rattle.clauses.specs.declared.literal.Literal.{Literal}
use Rattle.clauses.specs.Flat.{Model}
use Rattle.clauses.proofs.Truth.{even_truth}
use Rattle.terms.specs.Limits.{ok_terms, ok_rule}
use Rattle.terms.specs.Terms.{Rule, terms, ops_all, Within, Fails}
use Rattle.circuit.specs.Bits.{val, bits_of}
use Rattle.circuit.specs.Nets.{Net, wires}
use Rattle.circuit.specs.Meaning.{truth_of, Whole}
use Rattle.circuit.proofs.Numbers.{length_bits_of, val_bits_of}
use Rattle.encoding.specs.declared.entry.Entry.{Entry}
use Rattle.encoding.specs.Encode.{start, table_net, encode, name_bits, Named}
use Rattle.encoding.specs.Table.{numbered_all}
use Rattle.encoding.specs.Values.{WellMade}
use Rattle.encoding.proofs.AllTerms.{Operands, Have, all_have, all_operands}
use Rattle.encoding.proofs.Stating.{named_agree, stated_fails, fails_stated}
use Rattle.encoding.proofs.TableNets.{start_whole, length_names, Spelled, all_spelled}

terms_ok : (r : Rule) → ok_rule r ≡ true → ok_terms (bits r.width) (terms r) ≡ true
terms_ok r ok = (and_parts (leb (ops_all (terms r)) 32) _ (and_parts (leb (length r.needs) 4) _ ok).1).1

-- the assignment with given words for the names
abbrev assigned : ℕ → (ℕ → ℕ) → ℕ → Bool
assigned w f v = cond (eqb v 0) true (get_or (bits_of w (f ((v - 1) / w))) ((v - 1) % w) false)

wire_bit : (w v i : ℕ) (s : ℕ → Bool) → i < w → get_or (map (truth_of s) (wires w v)) i false ≡ s (v + i)
wire_bit zero v i s h = absurd (omega arith)
wire_bit (suc w) v zero s h = even_truth s (2 * v + 2) (omega arith) ∙ ap s (omega arith)
wire_bit (suc w) v (suc i) s h = wire_bit w (suc v) i s (omega arith) ∙ ap s (omega arith)

assigned_bits : (w : ℕ) (f : ℕ → ℕ) (k : ℕ) → name_bits w (assigned w f) k ≡ bits_of w (f k)
assigned_bits w f k = ext_get_or false _ _ (length_names w (assigned w f) k ∙ sym (length_bits_of w (f k))) (λ i h.
    let l : i < w = omega (arith, length_names w (assigned w f) k) in
    let place : 1 + k * w + i - 1 ≡ k * w + i = omega arith in
    let row : (1 + k * w + i - 1) / w ≡ k = ap (λ x. x / w) place ∙ digits_div k l in
    let column : (1 + k * w + i - 1) % w ≡ i = ap (λ x. x % w) place ∙ digits_mod k l in
    wire_bit w (1 + k * w) i (assigned w f) l ∙ (cond-false (eqb (1 + k * w + i) 0) _ _ (ne_eqb _ _ (λ q. omega arith)) ∙ (λ j. get_or (bits_of w (f (row j))) (column j) false)))

-- any words for the names
abbrev both : (ℕ → ℕ) → (ℕ → ℕ) → ℕ → ℕ
both a c k = cond (ltb k 16) (a k) (c (k - 16))

assigned_names : (w : ℕ) (a c : ℕ → ℕ) → ((i : ℕ) → a i < 2 ^ w) → ((i : ℕ) → c i < 2 ^ w) → Named w a c (assigned w (both a c))
assigned_names w a c ha hc = record {
  anys = λ k l. ap val (assigned_bits w (both a c) k ∙ ap (bits_of w) (cond-true (ltb k 16) (a k) (c (k - 16)) (lt-ltb k 16 l))) ∙ val_bits_of w (a k) (ha k);
  cons = λ k l.
      let far : 16 + k - 16 ≡ k = omega arith in
      ap val (assigned_bits w (both a c) (16 + k) ∙ ap (bits_of w) (cond-false (ltb (16 + k) 16) (a (16 + k)) (c (16 + k - 16)) (le-ltb (16 + k) 16 (omega arith)) ∙ ap c far)) ∙ val_bits_of w (c k) (hc k);
}

module _ (r : Rule) (ok : ok_rule r ≡ true) where
  abbrev w : ℕ
  w = bits r.width

  abbrev pub table : List Entry
  table = (numbered_all (terms r) []).0

  abbrev pub net : Net × List (List Literal)
  net = table_net w table [] (start w)

  no_entry : WellMade w []
  no_entry i h = absurd (omega arith)

  have : (a c : ℕ → ℕ) (s : ℕ → Bool) (m : Named w a c s) → Have w (bits_pos r.width) (name_bits w s) (length_names w s) a c m.anys m.cons [] (numbered_all (terms r) []) (terms r)
  have a c s m = all_have w (bits_pos r.width) (name_bits w s) (length_names w s) a c m.anys m.cons (terms r) [] (terms_ok r ok) no_entry

  pub table_made : WellMade w table
  table_made = (have _ _ (λ v. true) (record { anys = λ k l. refl; cons = λ k l. refl })).made

  pub places_operands : Operands table (numbered_all (terms r) []).1
  places_operands = all_operands w (bits_pos r.width) (name_bits w (λ v. true)) (length_names w (λ v. true)) _ _ (λ k l. refl) (λ k l. refl) table (numbered_all (terms r) []).1 (terms r) (have _ _ (λ v. true) (record { anys = λ k l. refl; cons = λ k l. refl })).all

  pub spelled : Spelled w table table_made net.0 net.1 (length table)
  spelled = all_spelled w table table_made

  pub whole : Whole net.0
  whole = spelled.defines.whole (start_whole w)

  pub encode_sound : (a c : ℕ → ℕ) → Within w a → Within w c → (s : ℕ → Bool) → Named w a c s → Model s (encode r).out → Fails r a c
  encode_sound a c ha hc s m h =
      let f = stated_fails w (bits_pos r.width) table table_made net.1 a c s m (numbered_all (terms r) []).1 r.needs r.from r.to net.0 (have a c s m).all whole spelled.spells h in
      record { a_in = ha; c_in = hc; met = f.1; differ = f.2 }

  pub encode_complete : (a c : ℕ → ℕ) → Fails r a c → (s : ℕ → Bool) × Model s (encode r).out
  encode_complete a c f =
      let s = assigned w (both a c) in
      let m = assigned_names w a c f.a_in f.c_in in
      let e = spelled.defines.extends (start_whole w) s (refl, tt) in
      let x = e.0 in
      fails_stated w (bits_pos r.width) table table_made net.1 a c x (named_agree w a c s x m (start w).next (omega arith) e.1) (numbered_all (terms r) []).1 r.needs r.from r.to net.0 (λ y k. (have a c y k).all) whole spelled.defines.grows spelled.spells e.2 f.met f.differ
