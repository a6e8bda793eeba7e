use Rattle.std.proofs.Common.{length}
use Rattle.kernel.proofs.Loading.{Loaded}
use Rattle.kernel.proofs.arena.Arena.new.Given as goal

abbrev pub invariant-loop-i : goal.invariant-loop-i
invariant-loop-i l = Loaded l.clauses l.variables (length l.initial.arena.words) l.arena l.start l.i
