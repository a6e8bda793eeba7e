use Rattle.kernel.proofs.Scans.{Scan}
use Rattle.kernel.proofs.trail.Trail.clashes.Given as goal

abbrev pub invariant-loop-x : goal.invariant-loop-x
invariant-loop-x l = Scan l.x-items l.self.values l.x-index l.alive
