use Rattle.clauses.specs.Models.{Written}
use Rattle.clauses.proofs.model.write_model.Given as goal

abbrev pub invariant-loop-x : goal.invariant-loop-x
invariant-loop-x g l = Written g.T.From.from_gives l.numbers l.map l.values l.initial.model l.model l.x-index
