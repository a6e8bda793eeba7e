use Rattle.std.proofs.Common.{◌≤◌}
use Rattle.clauses.specs.Numbering.{Inverse, Renames}
use Rattle.clauses.proofs.numbering.number_variables.Given as goal

abbrev pub invariant-loop-k : goal.invariant-loop-k
invariant-loop-k l = Inverse l.map l.names l.count × Renames l.formula.numbers.now l.renamed l.map l.k × (l.count ≤ l.k)
