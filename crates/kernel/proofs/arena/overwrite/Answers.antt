use Rattle.std.proofs.Common.{refl, arith, ◌∙◌, length-set}
use Rattle.kernel.proofs.Storing.{overwritten_none, overwritten_more}
use Rattle.kernel.proofs.arena.overwrite.Goals as goal

pub loop-k-init : goal.loop-k-init
loop-k-init c = (overwritten_none _ _ _, refl)

pub loop-k-preserved : goal.loop-k-preserved
loop-k-preserved c = (overwritten_more _ _ _ _ _ _ (omega arith) refl c.loop-k.invariant.0, length-set c.loop-k.words _ _ ∙ c.loop-k.invariant.1)
