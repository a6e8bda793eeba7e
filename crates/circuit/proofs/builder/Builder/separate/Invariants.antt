use Rattle.std.proofs.Common.{◌≡◌, ◌+◌, length, drop}
use Rattle.circuit.specs.Circuits.{apart_net}
use Rattle.circuit.specs.Built.{Wrote}
use Rattle.circuit.proofs.builder.Builder.separate.Given as goal

abbrev pub invariant-loop-i : goal.invariant-loop-i
invariant-loop-i l = Wrote l.initial.self l.self l.self.net × (apart_net l.x l.y l.initial.self.net ≡ apart_net (drop l.i-iterator.count l.x) l.i-iterator.iter.iter.rest.now l.self.net) × (l.i-iterator.count + length l.i-iterator.iter.iter.rest.now ≡ length l.x)
