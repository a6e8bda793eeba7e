use Rattle.std.proofs.Common.{◌≡◌, ◌/◌, length, set, ap, sym, ◌∙◌, subst, arith}
use Rattle.kernel.specs.Arena.{Follows}
use Rattle.kernel.proofs.Hinting.{Hinted, hinted_clause, hinted_more}
use Rattle.kernel.proofs.hints.by_hints.Goals as goal
use Rattle.kernel.proofs.hints.by_hints.Goals.{then-is_header+in-Open, then-is_header+in-Unit, else-is_header}

pub returns-in-Conflict : goal.returns-in-Conflict
returns-in-Conflict c = λ _.
    let long : length c.loop-hint.values ≡ length c.args.values.now = omega arith in
    subst (λ m. Follows c.args.clauses.now m c.args.literals.now) long (hinted_clause _ c.loop-hint.values _ c.in-Conflict.ensures c.loop-hint.invariant)

pub loop-hint-preserved : goal.loop-hint-preserved
loop-hint-preserved c =
    elim c.if-is_header.branch [
      | then-is_header+in-Open w ↦ subst (λ t. Hinted c.args.clauses.now t c.args.literals.now) (sym w.values-is) c.loop-hint.invariant
      | then-is_header+in-Unit w ↦
          let at : w.index.result ≡ w.in-Unit.x.0 / 2 = omega arith in
          subst (λ t. Hinted c.args.clauses.now t c.args.literals.now) (sym (w.values-is ∙ ap (λ i. set c.loop-hint.values i w.in-Unit.x.0) at)) (hinted_more _ _ _ _ w.in-Unit.ensures c.loop-hint.invariant)
      | else-is_header w ↦ subst (λ t. Hinted c.args.clauses.now t c.args.literals.now) (sym w.values-is) c.loop-hint.invariant
    ]
