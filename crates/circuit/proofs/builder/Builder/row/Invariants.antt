use Rattle.std.proofs.Common.{◌≡◌, take, drop}
use Rattle.circuit.specs.Circuits.{row_net}
use Rattle.circuit.specs.Built.{Wrote}
use Rattle.circuit.proofs.Loops.{after}
use Rattle.circuit.proofs.builder.Builder.row.Given as goal

abbrev pub invariant-loop-i : goal.invariant-loop-i
invariant-loop-i l = Wrote l.initial.self l.self l.self.net × (row_net l.x l.y l.initial.word l.initial.over l.initial.self.net ≡ after (take l.i l.word) (row_net l.x (drop l.i l.y) (drop l.i l.word) l.over l.self.net))
