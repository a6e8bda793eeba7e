use Rattle.std.proofs.Common.{◌≡◌, drop}
use Rattle.circuit.specs.Circuits.{unless_net}
use Rattle.circuit.specs.Built.{Wrote}
use Rattle.circuit.proofs.builder.Builder.unless.Given as goal

abbrev pub invariant-loop-bit : goal.invariant-loop-bit
invariant-loop-bit l = Wrote l.initial.self l.self l.self.net × (unless_net l.a l.x l.initial.self.net ≡ unless_net l.a (drop l.bit-index l.x) l.self.net)
