use Rattle.std.proofs.Common.{◌≤◌}
use Rattle.kernel.proofs.Absorbing.{Absorbing}
use Rattle.kernel.proofs.Looking.{code}
use Rattle.kernel.proofs.marks.Marks.absorb.Given as goal

abbrev pub invariant-loop-code : goal.invariant-loop-code
invariant-loop-code l = Absorbing l.trail.values l.literals l.fn.self l.self-inside.seen.now 0 l.code-index (code l.resolved) l.self-inside.count × (l.current ≤ l.code-index)
