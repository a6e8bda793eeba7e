use Rattle.std.proofs.Common.{◌≡◌}
use Rattle.solver.proofs.decide.pick.Given as goal

abbrev pub invariant-loop-turn : goal.invariant-loop-turn
invariant-loop-turn l = l.search.trail ≡ l.fn.search.trail
