use Rattle.std.proofs.Common.{◌≡◌, ◌-◌, length}
use Rattle.kernel.specs.Trail.{Went}
use Rattle.learning.proofs.search.Search.propagate.Given as goal

abbrev pub invariant-loop-place : goal.invariant-loop-place
invariant-loop-place l = Went l.fn.self.trail l.self.trail × (l.self.arena.low ≡ l.fn.self.arena.low) × (length l.self.arena.words ≡ length l.fn.self.arena.words) × (l.self.marks ≡ l.fn.self.marks)

abbrev pub decreases-loop-place : goal.decreases-loop-place
decreases-loop-place l = length l.self.trail.values - l.place
