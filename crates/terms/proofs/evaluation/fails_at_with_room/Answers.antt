use Rattle.std.proofs.Common.{length, sym, ap, ◌∙◌, arith}
use Rattle.std.proofs.lemmas.Bool.{false≢true}
use Rattle.terms.proofs.Evaluated.{fails_met, differ_fails}
use Rattle.terms.proofs.Roots.{root_count}
use Rattle.terms.proofs.evaluation.fails_at_with_room.Goals as goal

pub returns-in_default : goal.returns-in_default
returns-in_default c = λ r rep. absurd (omega (arith, root_count c.args.rule.now r rep, ap length c.as_slice.ensures.value))

pub returns-then-all_met : goal.returns-then-all_met
returns-then-all_met c = λ r rep.
    let a = c.args.assignment.now in
    differ_fails c.args.rule.now r c.as_slice.result.now a.any a.con c.evaluate.new.values c.evaluate.ensures rep c.as_slice.ensures.value (rw (← c.requires) a.any_words) (rw (← c.requires) a.con_words) (c.all_met.ensures.0 c.if-all_met.true)

pub returns-else-all_met : goal.returns-else-all_met
returns-else-all_met c = λ r rep.
    let a = c.args.assignment.now in (
      λ h. absurd (false≢true (sym c.if-all_met.false ∙ h)),
      λ f. c.all_met.ensures.1 (fails_met c.args.rule.now r c.as_slice.result.now a.any a.con c.evaluate.new.values c.evaluate.ensures rep c.as_slice.ensures.value f),
    )
