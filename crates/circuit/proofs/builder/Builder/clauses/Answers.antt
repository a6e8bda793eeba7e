use Rattle.std.proofs.Common.{◌+◌, List, [], map, drop, get_or, ◌∙◌, Bor}
use Rattle.std.proofs.lemmas.List.{at_drop_more}
use Rattle.clauses.specs.declared.literal.Literal.{Literal}
use Rattle.circuit.specs.Nets.{said, said_all}
use Rattle.circuit.proofs.Growing.{said_all_grows}
use Rattle.circuit.proofs.Loops.{loop_fits}
use Rattle.circuit.proofs.builder.Builder.clauses.Goals as goal

pub clause-requires : goal.clause-requires
clause-requires c =
    let none : Bor (List Literal) = record { ref_ptr = (0, 0); now = [] } in
    let more = at_drop_more (λ ls. said_all (map (λ r. r.now) ls) c.loop-row.self.net) c.args.rows.now c.loop-row.row-index none c.loop-row-test.true in
    let rest = map (λ (r : Bor (List Literal)). r.now) (drop (c.loop-row.row-index + 1) c.args.rows.now) in
    loop_fits c.loop-row.invariant.0 (c.loop-row.invariant.1 ∙ more) (said_all_grows rest (said (get_or c.args.rows.now c.loop-row.row-index none).now c.loop-row.self.net)) c.requires
