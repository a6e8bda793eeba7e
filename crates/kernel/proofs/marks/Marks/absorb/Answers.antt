use Rattle.std.proofs.Common.{◌≡◌, ◌≢◌, ◌+◌, ◌-◌, ◌/◌, ◌∙◌, Some, length, get_or, set, IfSome, sym, ap, subst, zero-add, arith, rules}
use Rattle.clauses.specs.declared.literal.Literal.{Literal}
use Rattle.kernel.specs.declared.marks.Marks.TheInside.{Inside}
use Rattle.kernel.specs.Resolve.{Due, Counts}
use Rattle.kernel.specs.Trail.{False}
use Rattle.kernel.proofs.Absorbing.{Absorbing, absorbed_skip, absorbed_seen, absorbed_mark, absorbed_as, absorbed_counted, marks_left}
use Rattle.kernel.proofs.Looking.{code, other_variable}
use Rattle.kernel.proofs.Marking.{from_bool_one}
use Rattle.kernel.proofs.marks.Marks.absorb.Goals as goal
use Rattle.kernel.proofs.marks.Marks.absorb.Goals.{then-ne+else-not-is_false+else-shares_variable+then-self-h-eq0, then-ne+else-not-is_false+else-shares_variable+else-self-h-eq0, else-ne}

pub loop-code-preserved : goal.loop-code-preserved
loop-code-preserved c =
    let inv = c.loop-code.invariant.0 in
    let few = c.loop-code.invariant.1 in
    let at : get_or c.args.literals.now (0 + c.loop-code.code-index) 0 ≡ get_or c.args.literals.now c.loop-code.code-index 0 = ap (λ k. get_or c.args.literals.now k 0) (zero-add c.loop-code.code-index) in
    let word = c.requires.clause.words c.loop-code.code-index c.loop-code-test.true in
    elim c.if-ne.branch [
      | then-ne+else-not-is_false+else-shares_variable+then-self-h-eq0 w ↦
          let h : w.index-h.result ≡ get_or c.args.literals.now (0 + c.loop-code.code-index) 0 / 2 = omega arith in
          let no = subst (λ vs. False vs (get_or c.args.literals.now (0 + c.loop-code.code-index) 0)) c.values-values.ensures.value (subst (False c.values-values.result.now) (sym at) w.if-not-is_false.ensures) in
          let apart = other_variable c.args.resolved _ word.lit (subst (λ y. IfSome c.args.resolved (λ x. y / 2 ≢ x.0 / 2)) (sym at) (w.shares_variable.ensures w.if-shares_variable.false)) in (
            absorbed_as _ _ _ _ _ _ _ _ _ _
                (ap (λ (s : Inside). s.seen.now) w.self-inside-is ∙ ap (λ i. set c.loop-code.self-inside.seen.now i 1) h) (ap (λ (s : Inside). s.count) w.self-inside-is)
                (absorbed_mark _ _ _ _ _ _ _ _ inv no apart (omega (arith, word.half, inv.marked.long)) (ap (λ i. get_or c.loop-code.self-inside.seen.now i 0) (sym h) ∙ w.if-self-h-eq0.true)),
            omega (arith, w.current-is, w.from-current.ensures, from_bool_one w.stands_from.result),
          )
      | then-ne+else-not-is_false+else-shares_variable+else-self-h-eq0 w ↦
          let h : w.index-h.result ≡ get_or c.args.literals.now (0 + c.loop-code.code-index) 0 / 2 = omega arith in
          let no = subst (λ vs. False vs (get_or c.args.literals.now (0 + c.loop-code.code-index) 0)) c.values-values.ensures.value (subst (False c.values-values.result.now) (sym at) w.if-not-is_false.ensures) in
          let apart = other_variable c.args.resolved _ word.lit (subst (λ y. IfSome c.args.resolved (λ x. y / 2 ≢ x.0 / 2)) (sym at) (w.shares_variable.ensures w.if-shares_variable.false)) in (
            absorbed_as _ _ _ _ _ _ _ _ _ _ (ap (λ (s : Inside). s.seen.now) w.self-inside-is) (ap (λ (s : Inside). s.count) w.self-inside-is)
                (absorbed_seen _ _ _ _ _ _ _ _ inv no apart (λ z. w.if-self-h-eq0.false (ap (λ i. get_or c.loop-code.self-inside.seen.now i 0) h ∙ z))),
            omega (arith, w.current-is),
          )
      | else-ne w ↦
          let same : c.args.resolved ≡ Some (record { 0 = get_or c.args.literals.now c.loop-code.code-index 0 }) = search rules in (
            absorbed_as _ _ _ _ _ _ _ _ _ _ (ap (λ (s : Inside). s.seen.now) w.self-inside-is) (ap (λ (s : Inside). s.count) w.self-inside-is)
                (absorbed_skip _ _ _ _ _ _ _ _ inv (at ∙ sym (ap code same))),
            omega (arith, w.current-is),
          )
    ]

pub overflow_sub-self : goal.overflow_sub-self
overflow_sub-self c =
    let all : c.loop-code.code-index ≡ length c.args.literals.now = omega arith in
    let due = subst (λ o. IfSome o (λ (x : Literal). Due c.args.trail.now.clauses c.args.trail.now.values c.args.self.now x.0)) c.in-Some.is c.requires.due in
    let inv = subst (λ k. Absorbing c.args.trail.now.values c.args.literals.now c.args.self.now c.loop-code.self-inside.seen.now 0 k (code c.args.resolved) c.loop-code.self-inside.count) all c.loop-code.invariant.0 in
    marks_left c.args.trail.now.clauses _ _ _ _ _ _ _ _ c.values-values.ensures.own c.requires.clause due
    (subst (λ x. Absorbing c.args.trail.now.values c.args.literals.now c.args.self.now c.loop-code.self-inside.seen.now 0 (length c.args.literals.now) x c.loop-code.self-inside.count) (ap code c.in-Some.is) inv)

pub invariant_of-self-in-Some : goal.invariant_of-self-in-Some
invariant_of-self-in-Some c =
    let all : c.loop-code.code-index ≡ length c.args.literals.now = omega arith in
    let due = subst (λ o. IfSome o (λ (x : Literal). Due c.args.trail.now.clauses c.args.trail.now.values c.args.self.now x.0)) c.in-Some.is c.requires.due in
    let inv = subst (λ k. Absorbing c.args.trail.now.values c.args.literals.now c.args.self.now c.loop-code.self-inside.seen.now 0 k (code c.args.resolved) c.loop-code.self-inside.count) all c.loop-code.invariant.0 in
    let h : c.index.result ≡ c.in-Some.x.0 / 2 = omega arith in
    subst (λ i. Counts (set c.loop-code.self-inside.seen.now i 0) (c.loop-code.self-inside.count - 1)) (sym h)
    (absorbed_counted c.args.trail.now.clauses _ _ _ _ _ _ _ _ c.values-values.ensures.own c.requires.clause due
    (subst (λ x. Absorbing c.args.trail.now.values c.args.literals.now c.args.self.now c.loop-code.self-inside.seen.now 0 (length c.args.literals.now) x c.loop-code.self-inside.count) (ap code c.in-Some.is) inv))
