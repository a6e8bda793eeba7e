use Rattle.std.proofs.Common.{◌≡◌, drop}
use Rattle.circuit.specs.Circuits.{any_net}
use Rattle.circuit.specs.Built.{Wrote}
use Rattle.circuit.proofs.builder.Builder.any.Given as goal

abbrev pub invariant-loop-bit : goal.invariant-loop-bit
invariant-loop-bit l = Wrote l.initial.self l.self l.self.net × (any_net l.x l.initial.so_far l.initial.self.net ≡ any_net (drop l.bit-index l.x) l.so_far l.self.net)
