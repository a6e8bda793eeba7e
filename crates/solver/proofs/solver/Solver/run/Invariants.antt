use Rattle.std.proofs.Common.{◌≡◌, length}
use Rattle.kernel.specs.Budget.{left}
use Rattle.solver.proofs.solver.Solver.run.Given as goal

abbrev pub invariant-turns : goal.invariant-turns
invariant-turns l = (l.self.search.trail.clauses ≡ l.fn.self.search.trail.clauses) × (length l.self.search.trail.values ≡ length l.fn.self.search.trail.values)

abbrev pub decreases-turns : goal.decreases-turns
decreases-turns l = left l.self.search.trail l.self.budget
