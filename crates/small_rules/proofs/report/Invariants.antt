use Rattle.std.proofs.Common.{◌≡◌, ◌+◌}
use Rattle.small_rules.proofs.report.Given as goal

abbrev pub invariant-loop-turn : goal.invariant-loop-turn
invariant-loop-turn l = l.rules.left + l._turn ≡ l.all
