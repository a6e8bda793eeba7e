use Rattle.std.proofs.Common.{length, ap, ◌∙◌, arith}
use Rattle.circuit.specs.Circuits.{equal_net}
use Rattle.circuit.specs.Parts.{equal_bit_net}
use Rattle.circuit.proofs.Circuits.{equal_grows}
use Rattle.circuit.proofs.Writing.{wrote_here}
use Rattle.circuit.proofs.Loops.{loop_fits, carried_more}
use Rattle.circuit.proofs.Steps.{equal_next}
use Rattle.circuit.proofs.builder.Builder.equal.Goals as goal

pub equal_bit-so_far-requires : goal.equal_bit-so_far-requires
equal_bit-so_far-requires c =
    let t = equal_bit_net c.in-Some.a.now c.in-Some.b.now c.loop-a.so_far c.loop-a.self.net in
    let more = equal_next c.loop-a.so_far c.loop-a.self.net c.in-Some.ensures.steps in
    loop_fits c.loop-a.invariant.0 (ap (λ r. r.0) (c.loop-a.invariant.1 ∙ more)) (equal_grows c.next.new.self.a.rest.now c.next.new.self.b.rest.now t.1 t.0) c.requires.room

pub loop-a-preserved : goal.loop-a-preserved
loop-a-preserved c =
    let t = equal_bit_net c.in-Some.a.now c.in-Some.b.now c.loop-a.so_far c.loop-a.self.net in
    let more = equal_next c.loop-a.so_far c.loop-a.self.net c.in-Some.ensures.steps in (
      wrote_here c.loop-a.invariant.0 c.equal_bit-so_far.ensures.wrote,
      carried_more (equal_net c.next.new.self.a.rest.now c.next.new.self.b.rest.now) t c.equal_bit-so_far.result (c.loop-a.invariant.1 ∙ more) c.equal_bit-so_far.ensures.wrote c.equal_bit-so_far.ensures.output,
      omega (arith, c.loop-a.invariant.2, ap length c.in-Some.ensures.steps.0, ap length c.in-Some.ensures.steps.1),
    )
