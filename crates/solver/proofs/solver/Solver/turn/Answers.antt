use Rattle.solver.proofs.Turning.{turned_further}
use Rattle.solver.proofs.solver.Solver.turn.Goals as goal

pub returns-then-flip : goal.returns-then-flip
returns-then-flip c = turned_further _ _ _ c.if-flip.ensures.turned
