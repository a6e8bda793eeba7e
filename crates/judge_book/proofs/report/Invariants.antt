use Rattle.std.proofs.Common.{◌≡◌, ◌+◌}
use Rattle.judge_book.proofs.report.Given as goal

abbrev pub invariant-loop-i : goal.invariant-loop-i
invariant-loop-i l = l.rules.left + l.i ≡ l.all
