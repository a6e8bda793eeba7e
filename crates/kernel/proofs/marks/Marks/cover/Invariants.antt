use Rattle.kernel.proofs.Covering.{Covering}
use Rattle.kernel.proofs.marks.Marks.cover.Given as goal

abbrev pub invariant-loop-code : goal.invariant-loop-code
invariant-loop-code l = Covering l.trail.clauses l.trail.values l.self-inside.seen.now l.literals l.code-index l.self-inside.count
