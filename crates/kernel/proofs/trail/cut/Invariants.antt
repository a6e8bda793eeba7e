use Rattle.std.proofs.Common.{◌≡◌, ◌+◌, length, take, drop}
use Rattle.kernel.specs.Trail.{IsTrail}
use Rattle.kernel.proofs.trail.cut.Given as goal

-- what is left of the literals stands from place k on, and is set
abbrev pub invariant-loop-x : goal.invariant-loop-x
invariant-loop-x l =
    (l.x-iterator.iter.rest.now ≡ take (length l.x-iterator.iter.rest.now) (drop l.k l.fn.literals))
    × IsTrail l.values l.fn.literals (l.k + length l.x-iterator.iter.rest.now)
