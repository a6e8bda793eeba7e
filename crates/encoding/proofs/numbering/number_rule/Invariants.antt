use Rattle.encoding.proofs.Rules.{NumberedSoFar}
use Rattle.terms.specs.Items.{places_of}
use Rattle.std.proofs.Common.{◌≡◌, length}
use Rattle.encoding.proofs.numbering.number_rule.Given as goal

abbrev pub invariant-loop-root : goal.invariant-loop-root
invariant-loop-root l = NumberedSoFar l.rule l.root-index l.table (places_of l.places) × (length (places_of l.places) ≡ l.root-index)
