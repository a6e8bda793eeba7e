use Rattle.std.proofs.Common.{arith}
use Rattle.kernel.proofs.Trails.{popped_back}
use Rattle.kernel.proofs.trail.cut.Goals as goal

pub loop-x-preserved : goal.loop-x-preserved
loop-x-preserved c = popped_back _ _ _ _ _ _ _ c.in-Some.ensures.steps c.loop-x.invariant.0 (omega arith) c.loop-x.invariant.1
