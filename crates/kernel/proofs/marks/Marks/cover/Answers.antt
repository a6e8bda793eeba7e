use Rattle.std.proofs.Common.{◌≡◌, ◌/◌, ◌∙◌, length, get_or, set, ap, subst, arith, rules}
use Rattle.kernel.specs.declared.marks.Marks.TheInside.{Inside}
use Rattle.kernel.specs.Arena.{Word}
use Rattle.kernel.specs.Trail.{False}
use Rattle.kernel.proofs.Covering.{cover_skip, cover_left, cover_clear, covered, covering_as}
use Rattle.kernel.proofs.marks.Marks.cover.Goals as goal
use Rattle.kernel.proofs.marks.Marks.cover.Goals.{then-self-h-ne0, else-self-h-ne0}

pub overflow_sub-self : goal.overflow_sub-self
overflow_sub-self c =
    let long = ap length c.values-values.ensures.value in
    let word : Word (length c.args.trail.now.values) (get_or c.args.literals.now c.loop-code.code-index 0) = record { lit = omega arith; half = omega arith; low = omega arith } in
    let no = subst (λ vs. False vs (get_or c.args.literals.now c.loop-code.code-index 0)) c.values-values.ensures.value c.if-not-is_false.ensures in
    let h : c.index-h.result ≡ get_or c.args.literals.now c.loop-code.code-index 0 / 2 = omega arith in
    cover_left _ _ _ _ _ _ c.loop-code.invariant word c.values-values.ensures.own no (λ z. c.if-self-h-ne0.true (ap (λ i. get_or c.loop-code.self-inside.seen.now i 0) h ∙ z))

pub loop-code-preserved : goal.loop-code-preserved
loop-code-preserved c =
    let long = ap length c.values-values.ensures.value in
    let word : Word (length c.args.trail.now.values) (get_or c.args.literals.now c.loop-code.code-index 0) = record { lit = omega arith; half = omega arith; low = omega arith } in
    let no = subst (λ vs. False vs (get_or c.args.literals.now c.loop-code.code-index 0)) c.values-values.ensures.value c.if-not-is_false.ensures in
    let h : c.index-h.result ≡ get_or c.args.literals.now c.loop-code.code-index 0 / 2 = omega arith in
    elim c.if-self-h-ne0.branch [
      | then-self-h-ne0 w ↦ covering_as _ _ _ _ _ _ _ _ (ap (λ (s : Inside). s.seen.now) w.self-inside-is ∙ ap (λ i. set c.loop-code.self-inside.seen.now i 0) h) (ap (λ (s : Inside). s.count) w.self-inside-is)
          (cover_clear _ _ _ _ _ _ c.loop-code.invariant word c.values-values.ensures.own no (λ z. w.if-self-h-ne0.true (ap (λ i. get_or c.loop-code.self-inside.seen.now i 0) h ∙ z)))
      | else-self-h-ne0 w ↦ covering_as _ _ _ _ _ _ _ _ (ap (λ (s : Inside). s.seen.now) w.self-inside-is) (ap (λ (s : Inside). s.count) w.self-inside-is) (cover_skip _ _ _ _ _ _ c.loop-code.invariant word)
    ]

pub returns-clause-covered : goal.returns-clause-covered
returns-clause-covered c = λ t. covered _ _ _ _ _ _ (omega arith) (search rules) c.loop-code.invariant
