use Rattle.std.proofs.Common.{◌≡◌, length, take}
use Rattle.circuit.specs.Circuits.{choose_net}
use Rattle.circuit.specs.Built.{Wrote}
use Rattle.circuit.proofs.Loops.{after, alone, Side}
use Rattle.circuit.proofs.builder.Builder.choose.Given as goal

abbrev pub invariant-loop-i : goal.invariant-loop-i
invariant-loop-i l = Wrote l.initial.self l.self l.self.net × (alone (choose_net l.s l.x l.y l.initial.self.net) ≡ after (take l.i-iterator.count l.out) (alone (choose_net l.s l.i-iterator.iter.a.rest.now l.i-iterator.iter.b.rest.now l.self.net))) × Side (length l.out) l.i-iterator.count l.i-iterator.iter.a.rest.now l.i-iterator.iter.b.rest.now
