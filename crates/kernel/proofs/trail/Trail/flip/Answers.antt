use Rattle.std.proofs.Common.{◌≡◌, ◌∙◌, refl, sym, ap, subst, length, get_or, set, ◌/◌}
use Rattle.std.proofs.lemmas.List.{get_or-take}
use Rattle.kernel.specs.Trail.{Trailed, Clash, IsLast, NoDecision}
use Rattle.clauses.specs.Flat.{Hopeless}
use Rattle.kernel.proofs.Trails.{clash_ends, few, last_here, none_here, turned_state, turned_more}
use Rattle.kernel.proofs.trail.Trail.flip.Goals as goal

pub returns-in_default-clause-turned : goal.returns-in_default-clause-turned
returns-in_default-clause-turned c =
    let st = c.self.invariant in
    let clash = subst (λ (t : Trailed). Clash t.clauses t.values) (sym c.self.view_is) c.requires in
    let none = subst (λ (t : Trailed). NoDecision t.kinds (length t.kinds)) (sym c.self.view_is) c.in_default.ensures in
    subst (λ (t : Trailed). Hopeless t.clauses) c.self.view_is (clash_ends c.self.inside.clauses.now _ _ _ _ st.trail st.sound clash (none_here _ _ (few _ _ _ _ _ st).0 none))

pub invariant_of-self : goal.invariant_of-self
invariant_of-self c =
    let st = c.self.invariant in
    let clash = subst (λ (t : Trailed). Clash t.clauses t.values) (sym c.self.view_is) c.requires in
    let last = last_here _ _ _ (few _ _ _ _ _ st).0 (subst (λ (t : Trailed). IsLast t.kinds c.in-Some.p) (sym c.self.view_is) c.in-Some.ensures) in
    let at : get_or c.args.self.now.literals c.in-Some.p 0 ≡ get_or c.self.inside.literals.now c.in-Some.p 0 = ap (λ (t : Trailed). get_or t.literals c.in-Some.p 0) (sym c.self.view_is) ∙ get_or-take _ _ _ _ last.0 in
    turned_state _ _ _ _ _ _ _ _ _ c.opposite-turned.result.0 st clash last.0 last.1 last.2
    (c.opposite-turned.ensures.variable ∙ ap (λ x. x / 2) at) (λ e. c.opposite-turned.ensures.other (e ∙ sym at)) c.push.ensures.trail
    (c.push.ensures.set ∙ ap (λ ts. set ts c.in-Some.p c.opposite-turned.result.0) c.cut.ensures.same) c.push.ensures.kind (c.push.auto.values ∙ c.cut.auto.values)

pub returns-clause-turned : goal.returns-clause-turned
returns-clause-turned c =
    let st = c.self.invariant in
    let clash = subst (λ (t : Trailed). Clash t.clauses t.values) (sym c.self.view_is) c.requires in
    let last = last_here _ _ _ (few _ _ _ _ _ st).0 (subst (λ (t : Trailed). IsLast t.kinds c.in-Some.p) (sym c.self.view_is) c.in-Some.ensures) in
    rw (← c.self.view_is) (record {
      clauses = refl;
      long = c.push.auto.values ∙ c.cut.auto.values;
      more = turned_more _ _ _ _ c.push.new.literals _ _ _ _ c.opposite-turned.result.0 st clash last.0 last.1 last.2 c.push.ensures.kind (c.push.auto.values ∙ c.cut.auto.values);
    })
