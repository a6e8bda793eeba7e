use Rattle.std.proofs.Common.{arith}
use Rattle.circuit.proofs.Filled.{inverted_more, inverted_all}
use Rattle.circuit.proofs.operations.invert.Goals as goal

pub loop-i-preserved : goal.loop-i-preserved
loop-i-preserved c = inverted_more c.args.x.now c.loop-i.out c.loop-i.i c.negated.result (omega arith) (omega arith) c.negated.ensures.value c.loop-i.invariant

pub returns : goal.returns
returns c = inverted_all c.args.x.now c.loop-i.out c.loop-i.i (omega arith) (omega arith) c.loop-i.invariant
