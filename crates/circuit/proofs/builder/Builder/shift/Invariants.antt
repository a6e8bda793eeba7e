use Rattle.std.proofs.Common.{◌≡◌, length, drop}
use Rattle.circuit.specs.Circuits.{shift_net}
use Rattle.circuit.specs.Built.{Wrote}
use Rattle.circuit.proofs.builder.Builder.shift.Given as goal

abbrev pub invariant-loop-i : goal.invariant-loop-i
invariant-loop-i l =
    Wrote l.initial.self l.self l.self.net
    × (shift_net l.direction l.incoming (length l.x) l.initial.places l.x l.count l.initial.self.net ≡ shift_net l.direction l.incoming (length l.x) l.places l.out (drop l.i l.count) l.self.net)
