use Rattle.std.proofs.Common.{length, ap, ◌∙◌, arith}
use Rattle.circuit.specs.Gates.{majority_net}
use Rattle.circuit.specs.Circuits.{borrow_net}
use Rattle.circuit.proofs.Circuits.{borrow_grows}
use Rattle.circuit.proofs.Writing.{wrote_here}
use Rattle.circuit.proofs.Loops.{loop_fits, carried_more}
use Rattle.circuit.proofs.Steps.{borrow_next}
use Rattle.circuit.proofs.builder.Builder.borrow.Goals as goal

pub majority-enough-requires : goal.majority-enough-requires
majority-enough-requires c =
    let t = majority_net c.in-Some.a.now c.negated.result c.loop-a.enough c.loop-a.self.net in
    let more = borrow_next c.negated.result c.loop-a.enough c.loop-a.self.net c.in-Some.ensures.steps c.negated.ensures.value in
    loop_fits c.loop-a.invariant.0 (ap (λ r. r.0) (c.loop-a.invariant.1 ∙ more)) (borrow_grows c.next.new.self.a.rest.now c.next.new.self.b.rest.now t.1 t.0) c.requires.room

pub loop-a-preserved : goal.loop-a-preserved
loop-a-preserved c =
    let t = majority_net c.in-Some.a.now c.negated.result c.loop-a.enough c.loop-a.self.net in
    let more = borrow_next c.negated.result c.loop-a.enough c.loop-a.self.net c.in-Some.ensures.steps c.negated.ensures.value in (
      wrote_here c.loop-a.invariant.0 c.majority-enough.ensures.wrote,
      carried_more (borrow_net c.next.new.self.a.rest.now c.next.new.self.b.rest.now) t c.majority-enough.result (c.loop-a.invariant.1 ∙ more) c.majority-enough.ensures.wrote c.majority-enough.ensures.output,
      omega (arith, c.loop-a.invariant.2, ap length c.in-Some.ensures.steps.0, ap length c.in-Some.ensures.steps.1),
    )
