use Rattle.std.proofs.Common.{◌≡◌, ◌≤◌, length}
use Rattle.learning.proofs.search.Search.collect.Given as goal

abbrev pub invariant-loop-p : goal.invariant-loop-p
invariant-loop-p l = (l.found.count ≤ length l.self.literals.now) × (l.self.trail ≡ l.fn.self.trail) × (l.self.marks ≡ l.fn.self.marks) × (l.self.arena ≡ l.fn.self.arena)
