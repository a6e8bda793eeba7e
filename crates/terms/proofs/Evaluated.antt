-- The values of nodes are those of the terms that they stand for.
use Rattle.std.proofs.Common.{◌≡◌, ℕ, zero, suc, ◌+◌, ◌-◌, ◌^◌, ◌<◌, ◌≤◌, ◌≢◌, not, eqb, List, [], ◌∷◌, length, get_or, set, take, Decides, sym, ap, ◌∙◌, subst, inl, inr, arith}
use Rattle.terms.specs.Items.{nodes_of, places_of}
use Rattle.std.proofs.lemmas.List.{get_or-set_same, get_or-set_other, get_or-take, length-take-le}
use Rattle.std.proofs.lemmas.Bool.{cases_eq, eqb-false, ne_eqb, not-true, not_from_false}
use Rattle.words.specs.Words.{bits, do1}
use Rattle.terms.specs.declared.node.Node.{Node}
use Rattle.terms.specs.declared.node.Node.TheVariants.{Any}
use Rattle.terms.specs.declared.rule.RuleNodes.{RuleNodes}
use Rattle.terms.specs.Nodes.{Stands}
use Rattle.terms.specs.Represents.{Represents}
use Rattle.terms.specs.Terms.{Term, any, con, lit, unary, binary, ite, Rule, eval, Met, Within, Fails}
use Rattle.terms.specs.Values.{AreWords, node_value}
use Rattle.terms.proofs.Roots.{Root, need_count, need_root, from_root, to_root}

-- the value of a node is that of its term, where those of the nodes before it are
pub node_eval : (w : ℕ) (a c vs : List ℕ) (ns : List Node) (i : ℕ) (e : Term) → ((j : ℕ) (f : Term) → j < i → Stands ns j f → get_or vs j 0 ≡ eval w (λ k. get_or a k 0) (λ k. get_or c k 0) f) → Stands ns i e → node_value w a c vs (get_or ns i (Any 0)) ≡ eval w (λ k. get_or a k 0) (λ k. get_or c k 0) e
node_eval w a c vs ns i (any k) all s = ap (node_value w a c vs) s
node_eval w a c vs ns i (con k) all s = ap (node_value w a c vs) s
node_eval w a c vs ns i (lit n) all s = ap (node_value w a c vs) s
node_eval w a c vs ns i (unary o x) all s = ap (node_value w a c vs) s.1 ∙ ap (do1 w o) (all s.0 x s.2 s.3)
node_eval w a c vs ns i (binary o x y) all s =
    let p = all s.0 x s.3 s.5 in
    let q = all s.1 y s.4 s.6 in
    ap (node_value w a c vs) s.2 ∙ rw (p, q)
node_eval w a c vs ns i (ite t x y) all s =
    let o = all s.0 t s.4 s.7 in
    let p = all s.1 x s.5 s.8 in
    let q = all s.2 y s.6 s.9 in
    ap (node_value w a c vs) s.3 ∙ rw (o, p, q)

-- one more word
pub words_more : (w : ℕ) (xs : List ℕ) (n x : ℕ) → n < length xs → AreWords w n xs → x < 2 ^ w → AreWords w (n + 1) (set xs n x)
words_more w xs n x room all h i lt =
    elim (cases_eq i n) [
      | inl e ↦ rw (e, get_or-set_same xs n x 0 room) h
      | inr ne ↦ rw (get_or-set_other xs n i x 0 ne) (all i (omega arith))
    ]

-- the words before one of them
pub words_before : (w : ℕ) (xs : List ℕ) (n : ℕ) → n ≤ length xs → AreWords w n xs → AreWords w (length (take n xs)) (take n xs)
words_before w xs n le all i lt = let below : i < n = omega (arith, length-take-le n xs le) in rw get_or-take (all i below)

-- what the nodes of a rule have as values
abbrev pub Evaluated : RuleNodes → List ℕ → List ℕ → List ℕ → Type 0
Evaluated x a c vs = (i : ℕ) (e : Term) → i < length (nodes_of x.nodes) → Stands (nodes_of x.nodes) i e → get_or vs i 0 ≡ eval (bits x.width) (λ k. get_or a k 0) (λ k. get_or c k 0) e

root_value : (x : RuleNodes) (r : Rule) (a c vs : List ℕ) (p : ℕ) (e : Term) → Evaluated x a c vs → Represents x r → Root x p e → get_or vs p 0 ≡ eval (bits r.width) (λ k. get_or a k 0) (λ k. get_or c k 0) e
root_value x r a c vs p e all rep root = all p e root.0 root.1 ∙ ap (λ w. eval (bits w) (λ k. get_or a k 0) (λ k. get_or c k 0) e) rep.width

met_from : (w : ℕ) (a c : ℕ → ℕ) (es : List Term) → ((i : ℕ) → i < length es → eval w a c (get_or es i (any 0)) ≡ 0 → ⊥) → Met w a c es
met_from w a c [] each = tt
met_from w a c (e ∷ es) each = (each 0 (omega arith), met_from w a c es (λ i h. each (suc i) (omega arith)))

met_at : (w : ℕ) (a c : ℕ → ℕ) (es : List Term) (i : ℕ) → i < length es → Met w a c es → eval w a c (get_or es i (any 0)) ≡ 0 → ⊥
met_at w a c [] i h m = let z : ⊥ = omega arith in absurd z
met_at w a c (e ∷ es) zero h m = m.0
met_at w a c (e ∷ es) (suc i) h m = met_at w a c es i (omega arith) m.1

module _ (x : RuleNodes) (r : Rule) (ks a c vs : List ℕ) (all : Evaluated x a c vs) (rep : Represents x r) (roots : ks ≡ (places_of x.roots)) where
  -- that no needed term is 0, as the roots tell it
  abbrev pub NeedsMet : Type 0
  NeedsMet = (k : ℕ) → k < length (take (length ks - 2) ks) → get_or vs (get_or (take (length ks - 2) ks) k 0) 0 ≢ 0

  need_value : (k : ℕ) → k < length r.needs → get_or vs (get_or (take (length ks - 2) ks) k 0) 0 ≡ eval (bits r.width) (λ k. get_or a k 0) (λ k. get_or c k 0) (get_or r.needs k (any 0))
  need_value k h = root_value x r a c vs _ _ all rep (need_root x r ks rep roots k h)

  -- none is 0 where the rule fails
  pub fails_met : Fails r (λ k. get_or a k 0) (λ k. get_or c k 0) → NeedsMet
  fails_met f k h z =
      let below : k < length r.needs = omega (arith, need_count x r ks rep roots) in
      met_at (bits r.width) (λ k. get_or a k 0) (λ k. get_or c k 0) r.needs k below f.met (sym (need_value k below) ∙ z)

  -- where none is 0, it fails exactly if its sides differ
  pub differ_fails : Within (bits x.width) (λ k. get_or a k 0) → Within (bits x.width) (λ k. get_or c k 0) → NeedsMet → Decides (not (eqb (get_or vs (get_or ks (length ks - 2) 0) 0) (get_or vs (get_or ks (length ks - 1) 0) 0))) (Fails r (λ k. get_or a k 0) (λ k. get_or c k 0))
  differ_fails wa wc met =
      let from = root_value x r a c vs _ r.from all rep (from_root x r ks rep roots) in
      let to = root_value x r a c vs _ r.to all rep (to_root x r ks rep roots) in (
        λ t. record {
          a_in = subst (λ w. Within (bits w) (λ k. get_or a k 0)) rep.width wa;
          c_in = subst (λ w. Within (bits w) (λ k. get_or c k 0)) rep.width wc;
          met = met_from (bits r.width) (λ k. get_or a k 0) (λ k. get_or c k 0) r.needs (λ i h z. met i (omega (arith, need_count x r ks rep roots)) (need_value i h ∙ z));
          differ = λ e. eqb-false _ _ (not-true _ t) (from ∙ e ∙ sym to);
        },
        λ f. not_from_false _ (ne_eqb _ _ (λ e. f.differ (sym from ∙ e ∙ to))),
      )
