use Rattle.std.proofs.Common.{arith, rules}
use Rattle.kernel.proofs.Trails.{state_start}
use Rattle.kernel.proofs.trail.Trail.new.Goals as goal

pub invariant_of-result : goal.invariant_of-result
invariant_of-result c = state_start _ _ _ _ (λ k l. search rules) (λ k l. omega (arith, c.requires.within k l)) (omega arith) (omega arith)
