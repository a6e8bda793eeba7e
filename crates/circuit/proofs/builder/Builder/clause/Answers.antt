use Rattle.std.proofs.Common.{◌≡◌, ◌+◌, [], get_or, drop, sym, refl, ap, ◌∙◌, subst}
use Rattle.std.proofs.lemmas.List.{at_drop_more, at_drop_all}
use Rattle.circuit.specs.Nets.{said}
use Rattle.circuit.specs.Built.{Fits, Wrote}
use Rattle.circuit.proofs.Writing.{wrote_none, fits_here, wrote_here, wrote_next, fits_literal, said_cons}
use Rattle.circuit.proofs.builder.Builder.clause.Goals as goal

pub loop-literal-init : goal.loop-literal-init
loop-literal-init c = (wrote_none _, refl)

pub push-requires : goal.push-requires
push-requires c =
    let left = c.loop-literal.invariant.1 ∙ at_drop_more (λ ls. said ls c.loop-literal.self.net) c.args.literals.now c.loop-literal.literal-index record { 0 = 0 } c.loop-literal-test.true in
    fits_literal _ (drop (c.loop-literal.literal-index + 1) c.args.literals.now) (fits_here c.loop-literal.invariant.0 (subst (Fits c.args.self.now) left c.requires))

pub loop-literal-preserved : goal.loop-literal-preserved
loop-literal-preserved c = (
  wrote_here c.loop-literal.invariant.0 c.push.ensures,
  c.loop-literal.invariant.1 ∙ at_drop_more (λ ls. said ls c.loop-literal.self.net) c.args.literals.now c.loop-literal.literal-index record { 0 = 0 } c.loop-literal-test.true
      ∙ sym (said_cons (get_or c.args.literals.now c.loop-literal.literal-index record { 0 = 0 }) (drop (c.loop-literal.literal-index + 1) c.args.literals.now) c.loop-literal.self.net)
      ∙ ap (said (drop (c.loop-literal.literal-index + 1) c.args.literals.now)) (sym c.push.ensures.net),
)

pub push-requires-2 : goal.push-requires-2
push-requires-2 c =
    let all : said c.args.literals.now c.args.self.now.net ≡ said [] c.loop-literal.self.net = c.loop-literal.invariant.1 ∙ at_drop_all (λ ls. said ls c.loop-literal.self.net) c.args.literals.now c.loop-literal.literal-index c.loop-literal-test.false in
    fits_here c.loop-literal.invariant.0 (subst (Fits c.args.self.now) all c.requires)

pub returns : goal.returns
returns c =
    let all : said c.args.literals.now c.args.self.now.net ≡ said [] c.loop-literal.self.net = c.loop-literal.invariant.1 ∙ at_drop_all (λ ls. said ls c.loop-literal.self.net) c.args.literals.now c.loop-literal.literal-index c.loop-literal-test.false in
    subst (Wrote c.args.self.now c.push-2.new.self) (sym all) (wrote_next (said []) c.loop-literal.invariant.0 c.push-2.ensures)
