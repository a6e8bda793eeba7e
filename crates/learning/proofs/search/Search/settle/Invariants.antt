use Rattle.std.proofs.Common.{◌≡◌}
use Rattle.kernel.specs.Trail.{Went}
use Rattle.learning.proofs.search.Search.settle.Given as goal

abbrev pub invariant-loop-c : goal.invariant-loop-c
invariant-loop-c l = Went l.fn.self.trail l.self.trail × (l.self.arena ≡ l.fn.self.arena) × (l.self.marks ≡ l.fn.self.marks)
