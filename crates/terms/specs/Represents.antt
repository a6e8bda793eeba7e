-- When a rule's nodes are those of a rule.
use Rattle.std.specs.Prelude.{◌≡◌}
use Rattle.terms.specs.Items.{nodes_of, places_of}
use Rattle.terms.specs.declared.rule.RuleNodes.{RuleNodes}
use Rattle.terms.specs.Terms.{Rule, terms}
use Rattle.terms.specs.Nodes.{Rooted}

pub record Represents (x : RuleNodes) (r : Rule) : Type 0 where
  pub width : x.width ≡ r.width
  pub rooted : Rooted (nodes_of x.nodes) (places_of x.roots) (terms r)
