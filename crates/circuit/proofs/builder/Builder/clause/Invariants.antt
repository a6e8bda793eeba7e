use Rattle.std.proofs.Common.{◌≡◌, drop}
use Rattle.circuit.specs.Nets.{said}
use Rattle.circuit.specs.Built.{Wrote}
use Rattle.circuit.proofs.builder.Builder.clause.Given as goal

abbrev pub invariant-loop-literal : goal.invariant-loop-literal
invariant-loop-literal l = Wrote l.initial.self l.self l.self.net × (said l.literals l.initial.self.net ≡ said (drop l.literal-index l.literals) l.self.net)
