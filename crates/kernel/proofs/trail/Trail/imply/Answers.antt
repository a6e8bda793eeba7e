use Rattle.std.proofs.Common.{refl, sym, subst}
use Rattle.kernel.specs.Trail.{Forced, Trailed}
use Rattle.kernel.proofs.Trails.{forced_entails, pushed_state, pushed_more}
use Rattle.kernel.proofs.trail.Trail.imply.Goals as goal

pub invariant_of-self : goal.invariant_of-self
invariant_of-self c =
    let forced : Forced c.self.inside.clauses.now c.self.inside.values.now c.args.x.0 = subst (λ (t : Trailed). Forced t.clauses t.values c.args.x.0) (sym c.self.view_is) c.requires in
    pushed_state _ _ _ _ _ _ _ _ _ _ (λ _. forced_entails _ _ _ _ _ c.self.invariant.trail forced) c.self.invariant c.push.ensures.trail c.push.ensures.set c.push.ensures.kind c.push.auto.values c.push.ensures.below

pub returns-clause-further : goal.returns-clause-further
returns-clause-further c = rw (← c.self.view_is) (record {
  clauses = refl;
  long = c.push.auto.values;
  more = pushed_more _ _ _ _ _ _ _ _ c.self.invariant c.push.ensures.kind c.push.auto.values c.push.ensures.below;
})
