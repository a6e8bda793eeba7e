use Rattle.std.proofs.Common.{◌≡◌, ◌++◌, take, drop}
use Rattle.circuit.specs.Circuits.{inverted}
use Rattle.circuit.proofs.operations.invert.Given as goal

abbrev pub invariant-loop-i : goal.invariant-loop-i
invariant-loop-i l = inverted l.x ≡ take l.i l.out ++ inverted (drop l.i l.x)
