use Rattle.std.proofs.Common.{arith}
use Rattle.clauses.proofs.Writing.{written_skip_as, written_next_as}
use Rattle.clauses.proofs.model.write_model.Goals as goal
use Rattle.clauses.proofs.model.write_model.Goals.{then-x-ge2, else-x-ge2}

pub loop-x-preserved : goal.loop-x-preserved
loop-x-preserved g c =
    let within = c.requires.within c.loop-x.x-index (omega arith) in
    elim c.if-x-ge2.branch [
      | then-x-ge2 w ↦ written_next_as _ _ _ _ _ _ _ c.loop-x.invariant _ _ _ w.model-is (omega arith) w.if-x-ge2.true (omega arith) w.sign.ensures
      | else-x-ge2 w ↦ written_skip_as _ _ _ _ _ _ _ c.loop-x.invariant _ w.model-is (omega arith)
    ]
