use Rattle.std.proofs.Common.{◌≡◌, length, take}
use Rattle.circuit.specs.Circuits.{turned, add_net}
use Rattle.circuit.specs.Built.{Wrote}
use Rattle.circuit.proofs.Loops.{after, Side}
use Rattle.circuit.proofs.builder.Builder.add.Given as goal

abbrev pub invariant-loop-i : goal.invariant-loop-i
invariant-loop-i l = Wrote l.initial.self l.self l.self.net × (add_net l.x (turned l.invert l.y) l.initial.over l.initial.self.net ≡ after (take l.i-iterator.count l.out) (add_net l.i-iterator.iter.a.rest.now (turned l.invert l.i-iterator.iter.b.rest.now) l.over l.self.net)) × Side (length l.out) l.i-iterator.count l.i-iterator.iter.a.rest.now l.i-iterator.iter.b.rest.now
