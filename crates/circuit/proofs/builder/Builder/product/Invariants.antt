use Rattle.std.proofs.Common.{◌≡◌, drop}
use Rattle.circuit.specs.Built.{Wrote}
use Rattle.circuit.proofs.ProductLoops.{rows_from}
use Rattle.circuit.proofs.builder.Builder.product.Given as goal

abbrev pub invariant-loop-i : goal.invariant-loop-i
invariant-loop-i l = Wrote l.initial.self l.self l.self.net × (rows_from l.i l.x l.y l.initial.self.net ≡ (l.self.net, (drop l.i l.out, drop l.i l.carries)))
