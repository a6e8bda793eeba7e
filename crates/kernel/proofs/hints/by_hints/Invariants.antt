use Rattle.kernel.proofs.Hinting.{Hinted}
use Rattle.kernel.proofs.hints.by_hints.Given as goal

abbrev pub invariant-loop-hint : goal.invariant-loop-hint
invariant-loop-hint l = Hinted l.clauses l.values l.literals
