use Rattle.std.proofs.Common.{rules}
use Rattle.kernel.proofs.Marking.{none_counted}
use Rattle.kernel.proofs.marks.Marks.new.Goals as goal

pub invariant_of-result : goal.invariant_of-result
invariant_of-result c = none_counted _ (λ k l. search rules)
