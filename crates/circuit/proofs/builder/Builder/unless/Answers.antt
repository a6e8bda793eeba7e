use Rattle.std.proofs.Common.{◌+◌, [], ◌∷◌, get_or, drop, ◌∙◌}
use Rattle.circuit.specs.Nets.{said}
use Rattle.circuit.specs.Circuits.{unless_net}
use Rattle.circuit.proofs.Circuits.{unless_grows}
use Rattle.circuit.proofs.Writing.{wrote_here}
use Rattle.circuit.proofs.Loops.{loop_fits, net_more}
use Rattle.circuit.proofs.Clauses.{unless_more}
use Rattle.circuit.proofs.Steps.{blank}
use Rattle.circuit.proofs.builder.Builder.unless.Goals as goal

pub clause-requires : goal.clause-requires
clause-requires c = loop_fits c.loop-bit.invariant.0 (c.loop-bit.invariant.1 ∙ unless_more c.args.a c.args.x.now c.loop-bit.bit-index c.loop-bit.self.net c.loop-bit-test.true) (unless_grows c.args.a (drop (c.loop-bit.bit-index + 1) c.args.x.now) (said (c.args.a ∷ get_or c.args.x.now c.loop-bit.bit-index blank ∷ []) c.loop-bit.self.net)) c.requires

pub loop-bit-preserved : goal.loop-bit-preserved
loop-bit-preserved c = (wrote_here c.loop-bit.invariant.0 c.clause.ensures, net_more (unless_net c.args.a (drop (c.loop-bit.bit-index + 1) c.args.x.now)) (said (c.args.a ∷ get_or c.args.x.now c.loop-bit.bit-index blank ∷ []) c.loop-bit.self.net) (c.loop-bit.invariant.1 ∙ unless_more c.args.a c.args.x.now c.loop-bit.bit-index c.loop-bit.self.net c.loop-bit-test.true) c.clause.ensures)
