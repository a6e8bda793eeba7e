use Rattle.std.proofs.Common.{◌<◌, ◌/◌, length, get_or, sym, subst, rules}
use Rattle.kernel.specs.Trail.{Own, Trailed}
use Rattle.kernel.proofs.Scans.{Scan, not_false, scan_end, scan_open, scan_false}
use Rattle.kernel.proofs.Trails.{own_values}
use Rattle.kernel.proofs.trail.Trail.clashes.Goals as goal
use Rattle.kernel.proofs.trail.Trail.clashes.Goals.{then-x-eq0+else-not-alive, else-x-eq0+then-not-is_false, else-x-eq0+else-not-is_false}

pub loop-x-preserved : goal.loop-x-preserved
loop-x-preserved c =
    let own = subst (λ (t : Trailed). Own t.values) c.self.view_is (own_values _ _ _ c.self.invariant.trail) in
    let within : get_or c.self.inside.clauses.now c.loop-x.x-index 0 / 2 < length c.args.self.now.values = search rules in
    elim c.if-x-eq0.branch [
      | then-x-eq0+else-not-alive w ↦ subst (Scan _ _ _) (sym w.alive-is) (scan_end _ _ _ _ c.loop-x-test.true c.loop-x.invariant w.if-x-eq0.true w.if-not-alive.false)
      | else-x-eq0+then-not-is_false w ↦ subst (Scan _ _ _) (sym w.alive-is) (scan_open _ _ _ _ c.loop-x-test.true c.loop-x.invariant w.if-x-eq0.false (not_false _ _ w.if-not-is_false.ensures))
      | else-x-eq0+else-not-is_false w ↦ subst (Scan _ _ _) (sym w.alive-is) (scan_false _ _ _ _ c.loop-x-test.true c.loop-x.invariant own within w.if-x-eq0.false w.if-not-is_false.ensures.set w.if-not-is_false.ensures.other)
    ]
