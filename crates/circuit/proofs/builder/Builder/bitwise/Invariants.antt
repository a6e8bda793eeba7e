use Rattle.std.proofs.Common.{◌≡◌, length, take}
use Rattle.circuit.specs.Circuits.{bitwise_net}
use Rattle.circuit.specs.Built.{Wrote}
use Rattle.circuit.proofs.Loops.{after, alone, Side}
use Rattle.circuit.proofs.builder.Builder.bitwise.Given as goal

abbrev pub invariant-loop-i : goal.invariant-loop-i
invariant-loop-i l = Wrote l.initial.self l.self l.self.net × (alone (bitwise_net l.op l.x l.y l.initial.self.net) ≡ after (take l.i-iterator.count l.out) (alone (bitwise_net l.op l.i-iterator.iter.a.rest.now l.i-iterator.iter.b.rest.now l.self.net))) × Side (length l.out) l.i-iterator.count l.i-iterator.iter.a.rest.now l.i-iterator.iter.b.rest.now
