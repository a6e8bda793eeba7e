use Rattle.std.proofs.Common.{◌≡◌, drop}
use Rattle.circuit.specs.Circuits.{none_net}
use Rattle.circuit.specs.Built.{Wrote}
use Rattle.circuit.proofs.builder.Builder.exclude.Given as goal

abbrev pub invariant-loop-bit : goal.invariant-loop-bit
invariant-loop-bit l = Wrote l.initial.self l.self l.self.net × (none_net l.b l.x l.initial.self.net ≡ none_net l.b (drop l.bit-index l.x) l.self.net)
