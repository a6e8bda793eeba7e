use Rattle.std.proofs.Common.{◌≡◌, drop}
use Rattle.circuit.specs.Circuits.{denied_net}
use Rattle.circuit.specs.Built.{Wrote}
use Rattle.circuit.proofs.builder.Builder.deny.Given as goal

abbrev pub invariant-loop-bit : goal.invariant-loop-bit
invariant-loop-bit l = Wrote l.initial.self l.self l.self.net × (denied_net l.x l.initial.self.net ≡ denied_net (drop l.bit-index l.x) l.self.net)
