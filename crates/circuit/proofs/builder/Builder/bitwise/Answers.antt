use Rattle.std.proofs.Common.{take, refl, ap, ◌∙◌, length-set}
use Rattle.circuit.specs.Circuits.{bit_net, bitwise_net}
use Rattle.circuit.proofs.Circuits.{bitwise_grows}
use Rattle.circuit.proofs.Steps.{bitwise_next}
use Rattle.circuit.proofs.Writing.{wrote_here}
use Rattle.circuit.proofs.Loops.{after, alone, loop_fits, side_inside, side_more, bit_more}
use Rattle.circuit.proofs.builder.Builder.bitwise.Goals as goal

pub bit-requires : goal.bit-requires
bit-requires c =
    let t = bit_net c.args.op c.in-Some.a.now c.in-Some.b.now c.loop-i.self.net in
    let more = bitwise_next c.args.op c.loop-i.self.net c.in-Some.ensures.steps.0 in
    loop_fits c.loop-i.invariant.0 (ap (λ r. r.0) (c.loop-i.invariant.1 ∙ ap (after (take c.loop-i.i-iterator.count c.loop-i.out)) more)) (bitwise_grows c.args.op c.next.new.self.iter.a.rest.now c.next.new.self.iter.b.rest.now t.0) c.requires.room

pub loop-i-preserved : goal.loop-i-preserved
loop-i-preserved c =
    let t = bit_net c.args.op c.in-Some.a.now c.in-Some.b.now c.loop-i.self.net in
    let more = bitwise_next c.args.op c.loop-i.self.net c.in-Some.ensures.steps.0 in
    let steps = c.in-Some.ensures.steps in (
      wrote_here c.loop-i.invariant.0 c.bit.ensures.wrote,
      bit_more (λ s n. alone (bitwise_net c.args.op c.next.new.self.iter.a.rest.now c.next.new.self.iter.b.rest.now n)) (t.0, (t.1, tt)) c.loop-i.out c.loop-i.i-iterator.count c.in-Some.i c.next.new.self.count c.bit.result tt steps.1 steps.2 (side_inside c.loop-i.invariant.2 steps.0 steps.1) (c.loop-i.invariant.1 ∙ ap (after (take c.loop-i.i-iterator.count c.loop-i.out)) more) c.bit.ensures.wrote c.bit.ensures.output refl,
      side_more c.loop-i.invariant.2 steps.0 steps.2 (length-set c.loop-i.out c.in-Some.i c.bit.result),
    )
