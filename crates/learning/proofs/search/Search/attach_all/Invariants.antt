use Rattle.std.proofs.Common.{◌≡◌}
use Rattle.learning.proofs.search.Search.attach_all.Given as goal

abbrev pub invariant-loop-c : goal.invariant-loop-c
invariant-loop-c l = l.self.trail ≡ l.fn.self.trail
