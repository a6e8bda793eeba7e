use Rattle.std.proofs.Common.{◌+◌, [], ◌∷◌, drop, ◌∙◌}
use Rattle.circuit.specs.Nets.{said}
use Rattle.circuit.specs.Circuits.{none_net}
use Rattle.circuit.proofs.Circuits.{none_grows}
use Rattle.circuit.proofs.Writing.{wrote_here}
use Rattle.circuit.proofs.Loops.{loop_fits, net_more}
use Rattle.circuit.proofs.Clauses.{none_more}
use Rattle.circuit.proofs.builder.Builder.exclude.Goals as goal

pub clause-requires : goal.clause-requires
clause-requires c = loop_fits c.loop-bit.invariant.0 (c.loop-bit.invariant.1 ∙ none_more c.args.b c.args.x.now c.loop-bit.bit-index c.negated.result c.negated-in-loop-bit.result c.loop-bit.self.net c.loop-bit-test.true c.negated.ensures.value c.negated-in-loop-bit.ensures.value) (none_grows c.args.b (drop (c.loop-bit.bit-index + 1) c.args.x.now) (said (c.negated.result ∷ c.negated-in-loop-bit.result ∷ []) c.loop-bit.self.net)) c.requires

pub loop-bit-preserved : goal.loop-bit-preserved
loop-bit-preserved c = (wrote_here c.loop-bit.invariant.0 c.clause.ensures, net_more (none_net c.args.b (drop (c.loop-bit.bit-index + 1) c.args.x.now)) (said (c.negated.result ∷ c.negated-in-loop-bit.result ∷ []) c.loop-bit.self.net) (c.loop-bit.invariant.1 ∙ none_more c.args.b c.args.x.now c.loop-bit.bit-index c.negated.result c.negated-in-loop-bit.result c.loop-bit.self.net c.loop-bit-test.true c.negated.ensures.value c.negated-in-loop-bit.ensures.value) c.clause.ensures)
