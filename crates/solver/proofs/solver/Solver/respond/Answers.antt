use Rattle.std.proofs.Common.{refl, arith, rules}
use Rattle.solver.proofs.Turning.{turned_over}
use Rattle.solver.proofs.solver.Solver.respond.Goals as goal

pub returns-in-Some-learn : goal.returns-in-Some-learn
returns-in-Some-learn c = turned_over _ _ _ _ (search rules) (search rules) (omega arith) refl

pub returns-then-forgetting_pays : goal.returns-then-forgetting_pays
returns-then-forgetting_pays c = turned_over _ _ _ _ (search rules) (search rules) (omega arith) (search rules)
