use Rattle.std.proofs.Common.{◌≡◌, length}
use Rattle.circuit.specs.Circuits.{equal_net}
use Rattle.circuit.specs.Built.{Wrote}
use Rattle.circuit.proofs.builder.Builder.equal.Given as goal

abbrev pub invariant-loop-a : goal.invariant-loop-a
invariant-loop-a l = Wrote l.initial.self l.self l.self.net × (equal_net l.x l.y l.initial.so_far l.initial.self.net ≡ equal_net l.a-iterator.a.rest.now l.a-iterator.b.rest.now l.so_far l.self.net) × (length l.a-iterator.b.rest.now ≡ length l.a-iterator.a.rest.now)
