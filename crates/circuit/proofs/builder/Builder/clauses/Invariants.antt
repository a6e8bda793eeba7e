use Rattle.std.proofs.Common.{◌≡◌, map, drop}
use Rattle.circuit.specs.Nets.{said_all}
use Rattle.circuit.specs.Built.{Wrote}
use Rattle.circuit.proofs.builder.Builder.clauses.Given as goal

abbrev pub invariant-loop-row : goal.invariant-loop-row
invariant-loop-row l = Wrote l.initial.self l.self l.self.net × (said_all (map (λ r. r.now) l.rows) l.initial.self.net ≡ said_all (map (λ r. r.now) (drop l.row-index l.rows)) l.self.net)
