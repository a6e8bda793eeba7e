use Rattle.std.proofs.Common.{◌≡◌}
use Rattle.kernel.specs.Resolve.{Blamed}
use Rattle.learning.proofs.search.Search.minimize.Given as goal

abbrev pub invariant-loop-p : goal.invariant-loop-p
invariant-loop-p l = (l.self.trail ≡ l.fn.self.trail) × (l.self.arena ≡ l.fn.self.arena) × Blamed l.self.trail.clauses l.self.trail.values l.self.marks
