-- The words of several terms have the terms' values.
use Rattle.std.proofs.Common.{◌≡◌, ℕ, ◌+◌, ◌<◌, Bool, true, List, [], ◌∷◌, ◌++◌, length, sym, ap, ◌∙◌}
use Rattle.std.proofs.lemmas.List.{append_assoc, append-nil}
use Rattle.std.proofs.lemmas.Bool.{and_parts}
use Rattle.terms.specs.Terms.{Term, eval}
use Rattle.terms.specs.Limits.{ok_term, ok_terms}
use Rattle.circuit.specs.Bits.{val}
use Rattle.encoding.specs.declared.entry.Entry.{Entry}
use Rattle.encoding.specs.Table.{numbered, numbered_all}
use Rattle.encoding.specs.Values.{Operand, WellMade}
use Rattle.encoding.proofs.TermValues.{at, later, value_later, term_has_value}

-- entries that have one word
abbrev pub Operands : List Entry → List ℕ → Type 0
Operands t [] = Unit {0}
Operands t (p ∷ ps) = Operand t (length t) p × Operands t ps

module _ (w : ℕ) (pos : 0 < w) (env : ℕ → List Bool) (long : (k : ℕ) → length (env k) ≡ w)
    (a c : ℕ → ℕ) (anys : (k : ℕ) → k < 16 → val (env k) ≡ a k) (cons : (k : ℕ) → k < 16 → val (env (16 + k)) ≡ c k) where
  -- the entries at these places have the values of these terms
  abbrev pub AllHave : List Entry → List ℕ → List Term → Type 0
  AllHave t [] [] = Unit {0}
  AllHave t [] (e ∷ es) = ⊥
  AllHave t (p ∷ ps) [] = ⊥
  AllHave t (p ∷ ps) (e ∷ es) = Operand t (length t) p × (val (at w pos env long t p) ≡ eval w a c e) × AllHave t ps es

  pub record Have (t : List Entry) (r : List Entry × List ℕ) (es : List Term) : Type 0 where
    pub rest : List Entry
    pub extends : r.0 ≡ t ++ rest
    pub made : WellMade w r.0
    pub all : AllHave r.0 r.1 es

  pub all_have : (es : List Term) (t : List Entry) → ok_terms w es ≡ true → WellMade w t → Have t (numbered_all es t) es
  all_have [] t ok made = record { rest = []; extends = sym (append-nil t); made = made; all = tt }
  all_have (e ∷ es) t ok made =
      let p = and_parts (ok_term w e) (ok_terms w es) ok in
      let h = term_has_value w pos env long a c anys cons e t p.0 made in
      let r = numbered e t in
      let g = all_have es r.0 p.1 h.made in
      let s = numbered_all es r.0 in
      record {
        rest = h.rest ++ g.rest;
        extends = g.extends ∙ (ap (λ xs. xs ++ g.rest) h.extends ∙ append_assoc t h.rest g.rest);
        made = g.made;
        all = (later w pos env long r.0 s.0 g.rest r.1 g.extends h.operand, value_later w pos env long r.0 s.0 g.rest r.1 _ g.extends h.operand h.is, g.all);
      }

  -- their places are operands
  pub all_operands : (t : List Entry) (ps : List ℕ) (es : List Term) → AllHave t ps es → Operands t ps
  all_operands t [] [] h = tt
  all_operands t [] (e ∷ es) h = absurd h
  all_operands t (p ∷ ps) [] h = absurd h
  all_operands t (p ∷ ps) (e ∷ es) h = (h.0, all_operands t ps es h.2)
