use Rattle.small_rules.specs.Marks.{Marked}
use Rattle.small_rules.proofs.names.Names.of.Given as goal

abbrev pub invariant-loop-node : goal.invariant-loop-node
invariant-loop-node l = Marked l.node-items l.node-index l.names.any l.names.con
