-- Marking the names of nodes, and that terms have the same values where the names that are marked do.
use Rattle.std.proofs.Common.{◌≡◌, ℕ, ◌+◌, ◌<◌, Bool, true, false, List, [], ◌∷◌, ◌++◌, length, get_or, set, sym, refl, ap, ◌∙◌, inl, inr, arith}
use Rattle.std.proofs.lemmas.List.{get_or-set_same, get_or-set_other, length-set}
use Rattle.std.proofs.lemmas.Bool.{cases_eq, ltb-true, true≢false, false≢true}
use Rattle.words.specs.Words.{do1}
use Rattle.terms.specs.declared.node.Node.{Node}
use Rattle.terms.specs.declared.node.Node.TheVariants.{Any, Con, Lit, Unary, Binary, Ite}
use Rattle.terms.specs.Nodes.{Stands, Rooted, AllSound, sound}
use Rattle.terms.specs.Terms.{Term, any, con, lit, unary, binary, ite, eval, Met}
use Rattle.small_rules.specs.Odometer.{Used}
use Rattle.small_rules.specs.Marks.{Marked, named, mark_any, mark_con}

-- f and g have the same words for the names that are used
abbrev pub Same : List Bool → (ℕ → ℕ) → (ℕ → ℕ) → Type 0
Same us f g = (j : ℕ) → j < 16 → Used us j → f j ≡ g j

pub eval_same : (w : ℕ) (ns : List Node) (n : ℕ) (anys cons : List Bool) (a b c d : ℕ → ℕ) → Marked ns n anys cons → Same anys a b → Same cons c d → (i : ℕ) (e : Term) → i < n → Stands ns i e → eval w a c e ≡ eval w b d e
eval_same w ns n anys cons a b c d m p q i (any k) lt s = let u = m.any_used i k lt s in p k u.0 u.1
eval_same w ns n anys cons a b c d m p q i (con k) lt s = let u = m.con_used i k lt s in q k u.0 u.1
eval_same w ns n anys cons a b c d m p q i (lit x) lt s = refl
eval_same w ns n anys cons a b c d m p q i (unary o x) lt s =
    ap (do1 w o) (eval_same w ns n anys cons a b c d m p q s.0 x (omega (arith, s.2)) s.3)
eval_same w ns n anys cons a b c d m p q i (binary o x y) lt s =
    let f = eval_same w ns n anys cons a b c d m p q s.0 x (omega (arith, s.3)) s.5 in
    let g = eval_same w ns n anys cons a b c d m p q s.1 y (omega (arith, s.4)) s.6 in
    rw (f, g) refl
eval_same w ns n anys cons a b c d m p q i (ite t x y) lt s =
    let h = eval_same w ns n anys cons a b c d m p q s.0 t (omega (arith, s.4)) s.7 in
    let f = eval_same w ns n anys cons a b c d m p q s.1 x (omega (arith, s.5)) s.8 in
    let g = eval_same w ns n anys cons a b c d m p q s.2 y (omega (arith, s.6)) s.9 in
    rw (h, f, g) refl

-- the needed terms, which are rooted before others
pub met_same : (w : ℕ) (ns : List Node) (anys cons : List Bool) (a b c d : ℕ → ℕ) → Marked ns (length ns) anys cons → Same anys a b → Same cons c d → (roots : List ℕ) (es fs : List Term) → Rooted ns roots (es ++ fs) → Met w b d es → Met w a c es
met_same w ns anys cons a b c d m p q roots [] fs r met = tt
met_same w ns anys cons a b c d m p q [] (e ∷ es) fs r met = absurd r
met_same w ns anys cons a b c d m p q (k ∷ ks) (e ∷ es) fs r met = (
  λ z. met.0 (sym (eval_same w ns (length ns) anys cons a b c d m p q k e r.0.0 r.0.1) ∙ z),
  met_same w ns anys cons a b c d m p q ks es fs r.1 met.1,
)

-- the name in a node, and whether it is an any, or a con
abbrev name_of : Node → ℕ
name_of (Any k) = k
name_of (Con k) = k
name_of (Lit n) = 0
name_of (Unary o j) = 0
name_of (Binary o j k) = 0
name_of (Ite h j k) = 0

abbrev is_any : Node → Bool
is_any (Any k) = true
is_any (Con k) = false
is_any (Lit n) = false
is_any (Unary o j) = false
is_any (Binary o j k) = false
is_any (Ite h j k) = false

abbrev is_con : Node → Bool
is_con (Any k) = false
is_con (Con k) = true
is_con (Lit n) = false
is_con (Unary o j) = false
is_con (Binary o j k) = false
is_con (Ite h j k) = false

-- one more place that is used
used_more : (us : List Bool) (k j : ℕ) → k < length us → Used us j → Used (set us k true) j
used_more us k j room u =
    elim (cases_eq j k) [
      | inl e ↦ rw (e, get_or-set_same us k true false room) refl
      | inr ne ↦ get_or-set_other us k j true false ne ∙ u
    ]

-- the names in a node that may stand in a rule
sound_named : (w i : ℕ) (x : Node) → sound w i x ≡ true → named x ≡ true
sound_named w i (Any k) h = h
sound_named w i (Con k) h = h
sound_named w i (Lit n) h = refl
sound_named w i (Unary o j) h = refl
sound_named w i (Binary o j k) h = refl
sound_named w i (Ite h j k) s = refl

-- a node that is no name
mark_none : (ns : List Node) (n : ℕ) (anys cons : List Bool) (x : Node) → get_or ns n (Any 0) ≡ x → (is_any x ≡ true → ⊥) → (is_con x ≡ true → ⊥) → Marked ns n anys cons → Marked ns (n + 1) anys cons
mark_none ns n anys cons x is no-any no-con m = record {
  any_long = m.any_long;
  con_long = m.con_long;
  any_used = λ i j lt e.
      elim (cases_eq i n) [
        | inl here ↦ absurd (no-any (ap is_any (sym is ∙ ap (λ p. get_or ns p (Any 0)) (sym here) ∙ e)))
        | inr ne ↦ m.any_used i j (omega arith) e
      ];
  con_used = λ i j lt e.
      elim (cases_eq i n) [
        | inl here ↦ absurd (no-con (ap is_con (sym is ∙ ap (λ p. get_or ns p (Any 0)) (sym here) ∙ e)))
        | inr ne ↦ m.con_used i j (omega arith) e
      ];
}

-- the names of the nodes before one, with that of the node itself
pub mark_node : (ns : List Node) (n : ℕ) (anys cons : List Bool) (x : Node) → get_or ns n (Any 0) ≡ x → named x ≡ true → Marked ns n anys cons → Marked ns (n + 1) (mark_any x anys) (mark_con x cons)
mark_node ns n anys cons (Any k) is ok m =
    let small = ltb-true k 16 ok in
    let long = m.any_long in
    let room : k < length anys = omega arith in
    record {
      any_long = length-set anys k true ∙ m.any_long;
      con_long = m.con_long;
      any_used = λ i j lt e.
          elim (cases_eq i n) [
            | inl here ↦
                let same : j ≡ k = ap name_of (sym e ∙ ap (λ p. get_or ns p (Any 0)) here ∙ is) in
                (rw same small, rw (same, get_or-set_same anys k true false room) refl)
            | inr ne ↦
                let p = m.any_used i j (omega arith) e in
                (p.0, used_more anys k j room p.1)
          ];
      con_used = λ i j lt e.
          elim (cases_eq i n) [
            | inl here ↦ absurd (true≢false (ap is_any (sym is ∙ ap (λ p. get_or ns p (Any 0)) (sym here) ∙ e)))
            | inr ne ↦ m.con_used i j (omega arith) e
          ];
    }
mark_node ns n anys cons (Con k) is ok m =
    let small = ltb-true k 16 ok in
    let long = m.con_long in
    let room : k < length cons = omega arith in
    record {
      any_long = m.any_long;
      con_long = length-set cons k true ∙ m.con_long;
      any_used = λ i j lt e.
          elim (cases_eq i n) [
            | inl here ↦ absurd (false≢true (ap is_any (sym is ∙ ap (λ p. get_or ns p (Any 0)) (sym here) ∙ e)))
            | inr ne ↦ m.any_used i j (omega arith) e
          ];
      con_used = λ i j lt e.
          elim (cases_eq i n) [
            | inl here ↦
                let same : j ≡ k = ap name_of (sym e ∙ ap (λ p. get_or ns p (Any 0)) here ∙ is) in
                (rw same small, rw (same, get_or-set_same cons k true false room) refl)
            | inr ne ↦
                let p = m.con_used i j (omega arith) e in
                (p.0, used_more cons k j room p.1)
          ];
    }
mark_node ns n anys cons (Lit v) is ok m = mark_none ns n anys cons (Lit v) is false≢true false≢true m
mark_node ns n anys cons (Unary o j) is ok m = mark_none ns n anys cons (Unary o j) is false≢true false≢true m
mark_node ns n anys cons (Binary o j k) is ok m = mark_none ns n anys cons (Binary o j k) is false≢true false≢true m
mark_node ns n anys cons (Ite h j k) is ok m = mark_none ns n anys cons (Ite h j k) is false≢true false≢true m

-- so has a node of a rule
pub named_at : (w : ℕ) (ns ms : List Node) (i : ℕ) → ms ≡ ns → i < length ms → AllSound w ns → named (get_or ms i (Any 0)) ≡ true
named_at w ns ms i e lt all = rw e (sound_named w i (get_or ns i (Any 0)) (all i (omega (arith, ap length e))))
