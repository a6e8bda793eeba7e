use Rattle.std.proofs.Common.{sym, subst, arith}
use Rattle.kernel.specs.Resolve.{Blamed}
use Rattle.kernel.proofs.Blaming.{unmarked_left, unmarked_counted}
use Rattle.kernel.proofs.marks.Marks.drop_level_zero.Goals as goal

pub overflow_sub-self : goal.overflow_sub-self
overflow_sub-self c =
    let blamed = subst (Blamed c.args.trail.now.clauses c.args.trail.now.values) (sym c.self.view_is) c.requires.blamed in
    unmarked_left c.args.trail.now.clauses _ _ c.index-h.result _ blamed c.self.invariant (omega (arith, c.literal.ensures.set.fits)) c.if-self-h-ne0.true

pub invariant_of-self : goal.invariant_of-self
invariant_of-self c =
    let blamed = subst (Blamed c.args.trail.now.clauses c.args.trail.now.values) (sym c.self.view_is) c.requires.blamed in
    unmarked_counted c.args.trail.now.clauses _ _ c.index-h.result _ blamed c.self.invariant (omega (arith, c.literal.ensures.set.fits)) c.if-self-h-ne0.true
