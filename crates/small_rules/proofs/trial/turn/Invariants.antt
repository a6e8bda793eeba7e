use Rattle.small_rules.proofs.Turns.{Turning}
use Rattle.small_rules.proofs.trial.turn.Given as goal

abbrev pub invariant-loop-k : goal.invariant-loop-k
invariant-loop-k l = Turning l.used l.most l.initial.values l.values l.k
