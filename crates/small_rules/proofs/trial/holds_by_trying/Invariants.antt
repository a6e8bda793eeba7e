use Rattle.small_rules.proofs.Trying.{Tried}
use Rattle.small_rules.proofs.trial.holds_by_trying.Given as goal

abbrev pub invariant-loop : goal.invariant-loop
invariant-loop l = Tried l.rule l.names.any l.names.con l.assignment
