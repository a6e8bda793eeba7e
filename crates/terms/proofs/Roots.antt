-- The roots of a rule's nodes stand for the rule's terms.
use Rattle.std.proofs.Common.{◌≡◌, ℕ, zero, suc, ◌+◌, ◌-◌, ◌<◌, List, [], ◌∷◌, length, get_or, take, refl, ap, ◌∙◌, arith}
use Rattle.terms.specs.Items.{nodes_of, places_of}
use Rattle.std.proofs.lemmas.List.{get_or_at, get_or_append_left, get_or-append-add, get_or-take, length-append, length-take-le}
use Rattle.terms.specs.declared.node.Node.{Node}
use Rattle.terms.specs.declared.rule.RuleNodes.{RuleNodes}
use Rattle.terms.specs.Nodes.{Stands, Rooted}
use Rattle.terms.specs.Represents.{Represents}
use Rattle.terms.specs.Terms.{Term, any, Rule, terms}

-- the node at place p of a rule stands for a term
abbrev pub Root : RuleNodes → ℕ → Term → Type 0
Root x p e = (p < length (nodes_of x.nodes)) × Stands (nodes_of x.nodes) p e

-- the term at place i of those that are rooted
pub rooted_at : (ns : List Node) (roots : List ℕ) (es : List Term) (i : ℕ) → i < length es → Rooted ns roots es → (get_or roots i 0 < length ns) × Stands ns (get_or roots i 0) (get_or es i (any 0))
rooted_at ns [] [] i h r = let z : ⊥ = omega arith in absurd z
rooted_at ns [] (e ∷ es) i h r = absurd r
rooted_at ns (k ∷ ks) [] i h r = absurd r
rooted_at ns (k ∷ ks) (e ∷ es) zero h r = r.0
rooted_at ns (k ∷ ks) (e ∷ es) (suc i) h r = rooted_at ns ks es i (omega arith) r.1

-- as many roots as terms
pub rooted_count : (ns : List Node) (roots : List ℕ) (es : List Term) → Rooted ns roots es → length roots ≡ length es
rooted_count ns [] [] r = refl
rooted_count ns [] (e ∷ es) r = absurd r
rooted_count ns (k ∷ ks) [] r = absurd r
rooted_count ns (k ∷ ks) (e ∷ es) r = ap suc (rooted_count ns ks es r.1)

pub root_count : (x : RuleNodes) (r : Rule) → Represents x r → length (places_of x.roots) ≡ length r.needs + 2
root_count x r rep = rooted_count (nodes_of x.nodes) (places_of x.roots) (terms r) rep.rooted ∙ length-append r.needs (r.from ∷ r.to ∷ [])

pub term_root : (x : RuleNodes) (r : Rule) (k : ℕ) → Represents x r → k < length r.needs + 2 → Root x (get_or (places_of x.roots) k 0) (get_or (terms r) k (any 0))
term_root x r k rep h = rooted_at (nodes_of x.nodes) (places_of x.roots) (terms r) k (omega (arith, length-append r.needs (r.from ∷ r.to ∷ []))) rep.rooted

-- of the roots, the last two are those of the sides, and the others those of the needed terms
module _ (x : RuleNodes) (r : Rule) (ks : List ℕ) (rep : Represents x r) (e : ks ≡ (places_of x.roots)) where
  pub count : length ks ≡ length r.needs + 2
  count = ap length e ∙ root_count x r rep

  pub need_count : length (take (length ks - 2) ks) ≡ length r.needs
  need_count = omega (arith, length-take-le (length ks - 2) ks (omega arith), count)

  pub need_root : (k : ℕ) → k < length r.needs → Root x (get_or (take (length ks - 2) ks) k 0) (get_or r.needs k (any 0))
  need_root k h =
      let place = get_or-take (length ks - 2) ks k 0 (omega (arith, count)) ∙ ap (λ l. get_or l k 0) e in
      rw (place, ← get_or_append_left r.needs (r.from ∷ r.to ∷ []) (any 0) k h) (term_root x r k rep (omega arith))

  pub from_root : Root x (get_or ks (length ks - 2) 0) r.from
  from_root =
      let last : length ks - 2 ≡ length r.needs = omega (arith, count) in
      rw (last, e, ← get_or_at r.needs r.from (r.to ∷ []) (any 0) (length r.needs) refl) (term_root x r (length r.needs) rep (omega arith))

  pub to_root : Root x (get_or ks (length ks - 1) 0) r.to
  to_root =
      let last : length ks - 1 ≡ length r.needs + 1 = omega (arith, count) in
      rw (last, e, ← get_or-append-add r.needs (r.from ∷ r.to ∷ []) 1 (any 0)) (term_root x r (length r.needs + 1) rep (omega arith))
