-- Terms in nodes: what stays when nodes are added, and a root more.
use Rattle.std.proofs.Common.{ℕ, ◌<◌, List, [], ◌∷◌, ◌++◌, length, ap, ◌∙◌, append_assoc, arith}
use Rattle.terms.specs.Items.{nodes_of}
use Rattle.std.proofs.lemmas.List.{get_or_append_left, length-append}
use Rattle.terms.specs.declared.node.Node.{Node}
use Rattle.terms.specs.declared.node.Node.TheVariants.{Any}
use Rattle.terms.specs.declared.rule.RuleNodes.{RuleNodes}
use Rattle.terms.specs.Terms.{Term, any, con, lit, unary, binary, ite}
use Rattle.terms.specs.Nodes.{Stands, Rooted}
use Rattle.book.specs.Reading.{Kept, Pushed}

pub stands_kept : (ns more : List Node) (i : ℕ) (e : Term) → i < length ns → Stands ns i e → Stands (ns ++ more) i e
stands_kept ns more i (any k) h r = get_or_append_left ns more (Any 0) i h ∙ r
stands_kept ns more i (con k) h r = get_or_append_left ns more (Any 0) i h ∙ r
stands_kept ns more i (lit k) h r = get_or_append_left ns more (Any 0) i h ∙ r
stands_kept ns more i (unary o x) h r =
    let l = r.2 in
    (r.0, get_or_append_left ns more (Any 0) i h ∙ r.1, l, stands_kept ns more r.0 x (omega arith) r.3)
stands_kept ns more i (binary o x y) h r =
    let l = r.3 in
    let m = r.4 in
    (r.0, r.1, get_or_append_left ns more (Any 0) i h ∙ r.2, l, m, stands_kept ns more r.0 x (omega arith) r.5, stands_kept ns more r.1 y (omega arith) r.6)
stands_kept ns more i (ite t x y) h r =
    let l = r.4 in
    let m = r.5 in
    let p = r.6 in (
      r.0,
      r.1,
      r.2,
      get_or_append_left ns more (Any 0) i h ∙ r.3,
      l,
      m,
      p,
      stands_kept ns more r.0 t (omega arith) r.7,
      stands_kept ns more r.1 x (omega arith) r.8,
      stands_kept ns more r.2 y (omega arith) r.9,
    )

-- ---- roots

pub rooted_kept : (ns more : List Node) (roots : List ℕ) (es : List Term) → Rooted ns roots es → Rooted (ns ++ more) roots es
rooted_kept ns more [] [] r = r
rooted_kept ns more [] (e ∷ es) r = absurd r
rooted_kept ns more (i ∷ roots) [] r = absurd r
rooted_kept ns more (i ∷ roots) (e ∷ es) r =
    let below = r.0.0 in
    ((omega (arith, length-append ns more), stands_kept ns more i e r.0.0 r.0.1), rooted_kept ns more roots es r.1)

-- one root more, after the others
pub rooted_push : (ns : List Node) (roots : List ℕ) (es : List Term) (root : ℕ) (e : Term) → Rooted ns roots es → root < length ns → Stands ns root e → Rooted ns (roots ++ root ∷ []) (es ++ e ∷ [])
rooted_push ns [] [] root e r lt there = ((lt, there), tt)
rooted_push ns [] (f ∷ es) root e r lt there = absurd r
rooted_push ns (i ∷ roots) [] root e r lt there = absurd r
rooted_push ns (i ∷ roots) (f ∷ es) root e r lt there = (r.0, rooted_push ns roots es root e r.1 lt there)

-- ---- a node is added

pub pushed_kept : {x x' : RuleNodes} {node : Node} → Pushed x x' node → Kept x x'
pushed_kept {node = node} p = record { more = node ∷ []; nodes = p.nodes; width = p.width }

pub kept_trans : {x y z : RuleNodes} → Kept x y → Kept y z → Kept x z
kept_trans {x} p q = record {
  more = p.more ++ q.more;
  nodes = q.nodes ∙ ap (λ ns. ns ++ q.more) p.nodes ∙ append_assoc (nodes_of x.nodes) p.more q.more;
  width = q.width ∙ p.width;
}
