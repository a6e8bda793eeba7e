use Rattle.std.proofs.Common.{arith, subst}
use Rattle.kernel.specs.Trail.{Trailed, Further}
use Rattle.solver.proofs.Turning.{turned_over, turned_further}
use Rattle.solver.proofs.solver.Solver.choose.Goals as goal

pub returns-then-restart_due : goal.returns-then-restart_due
returns-then-restart_due c = turned_over _ _ _ _ c.start_over.ensures.clauses c.start_over.ensures.long (omega arith) c.start_over.ensures.budget

pub returns : goal.returns
returns c = turned_further _ _ _ (subst (λ (t : Trailed). Further t c.decide.new.self) c.find_free.ensures.trail c.decide.ensures.further)
