use Rattle.std.proofs.Common.{◌≡◌}
use Rattle.learning.proofs.search.Search.insert_all.Given as goal

abbrev pub invariant-loop-v : goal.invariant-loop-v
invariant-loop-v l = l.self.trail ≡ l.fn.self.trail
