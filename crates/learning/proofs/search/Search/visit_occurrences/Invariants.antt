use Rattle.std.proofs.Common.{◌≡◌, length}
use Rattle.kernel.specs.Trail.{Went}
use Rattle.learning.proofs.search.Search.visit_occurrences.Given as goal

abbrev pub invariant-loop-turn : goal.invariant-loop-turn
invariant-loop-turn l = Went l.fn.self.trail l.self.trail × (l.self.arena.low ≡ l.fn.self.arena.low) × (length l.self.arena.words ≡ length l.fn.self.arena.words) × (l.self.marks ≡ l.fn.self.marks)
