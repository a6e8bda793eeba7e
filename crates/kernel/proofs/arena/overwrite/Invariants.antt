use Rattle.std.proofs.Common.{◌≡◌, length}
use Rattle.kernel.specs.Arena.{Overwritten}
use Rattle.kernel.proofs.arena.overwrite.Given as goal

abbrev pub invariant-loop-k : goal.invariant-loop-k
invariant-loop-k l = Overwritten l.initial.words l.words l.new l.place l.k × (length l.words ≡ length l.initial.words)
