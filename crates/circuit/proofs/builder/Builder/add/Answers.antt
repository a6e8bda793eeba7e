use Rattle.std.proofs.Common.{take, ap, ◌∙◌, length-set}
use Rattle.circuit.specs.Circuits.{turned, full_net, add_net}
use Rattle.circuit.proofs.Circuits.{add_grows}
use Rattle.circuit.proofs.Writing.{wrote_here}
use Rattle.circuit.proofs.Loops.{after, loop_fits, side_inside, side_more, bit_more}
use Rattle.circuit.proofs.Steps.{add_next}
use Rattle.circuit.proofs.builder.Builder.add.Goals as goal

pub full-bits-requires : goal.full-bits-requires
full-bits-requires c =
    let t = full_net c.in-Some.a.now c.turn-other.result c.loop-i.over c.loop-i.self.net in
    let more = add_next c.args.invert c.turn-other.result c.loop-i.over c.loop-i.self.net c.in-Some.ensures.steps.0 c.turn-other.ensures in
    loop_fits c.loop-i.invariant.0 (ap (λ r. r.0) (c.loop-i.invariant.1 ∙ ap (after (take c.loop-i.i-iterator.count c.loop-i.out)) more)) (add_grows c.next.new.self.iter.a.rest.now (turned c.args.invert c.next.new.self.iter.b.rest.now) t.1.1 t.0) c.requires.room

pub loop-i-preserved : goal.loop-i-preserved
loop-i-preserved c =
    let t = full_net c.in-Some.a.now c.turn-other.result c.loop-i.over c.loop-i.self.net in
    let more = add_next c.args.invert c.turn-other.result c.loop-i.over c.loop-i.self.net c.in-Some.ensures.steps.0 c.turn-other.ensures in
    let steps = c.in-Some.ensures.steps in (
      wrote_here c.loop-i.invariant.0 c.full-bits.ensures.wrote,
      bit_more (add_net c.next.new.self.iter.a.rest.now (turned c.args.invert c.next.new.self.iter.b.rest.now)) t c.loop-i.out c.loop-i.i-iterator.count c.in-Some.i c.next.new.self.count c.full-bits.result.bit c.full-bits.result.carry steps.1 steps.2 (side_inside c.loop-i.invariant.2 steps.0 steps.1) (c.loop-i.invariant.1 ∙ ap (after (take c.loop-i.i-iterator.count c.loop-i.out)) more) c.full-bits.ensures.wrote c.full-bits.ensures.bit c.full-bits.ensures.over,
      side_more c.loop-i.invariant.2 steps.0 steps.2 (length-set c.loop-i.out c.in-Some.i c.full-bits.result.bit),
    )
