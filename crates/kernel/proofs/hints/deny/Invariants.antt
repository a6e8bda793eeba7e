use Rattle.kernel.specs.Hints.{Denied}
use Rattle.kernel.proofs.hints.deny.Given as goal

abbrev pub invariant-loop-code : goal.invariant-loop-code
invariant-loop-code l = Denied l.values l.literals l.code-index
