use Rattle.std.proofs.Common.{refl}
use Rattle.kernel.proofs.Trails.{pushed_state, pushed_more}
use Rattle.kernel.proofs.trail.Trail.decide.Goals as goal

pub invariant_of-self : goal.invariant_of-self
invariant_of-self c = pushed_state _ _ _ _ _ _ _ _ _ 0 (λ f. absurd (f refl)) c.self.invariant c.push.ensures.trail c.push.ensures.set c.push.ensures.kind c.push.auto.values c.push.ensures.below

pub returns-clause-further : goal.returns-clause-further
returns-clause-further c = rw (← c.self.view_is) (record {
  clauses = refl;
  long = c.push.auto.values;
  more = pushed_more _ _ _ _ _ _ _ _ c.self.invariant c.push.ensures.kind c.push.auto.values c.push.ensures.below;
})
