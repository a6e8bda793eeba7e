use Rattle.std.proofs.Common.{take, refl, ap, ◌∙◌, length-set}
use Rattle.circuit.specs.Gates.{choice_net}
use Rattle.circuit.specs.Circuits.{choose_net}
use Rattle.circuit.proofs.Circuits.{choose_grows}
use Rattle.circuit.proofs.Steps.{choose_next}
use Rattle.circuit.proofs.Writing.{wrote_here}
use Rattle.circuit.proofs.Loops.{after, alone, loop_fits, side_inside, side_more, bit_more}
use Rattle.circuit.proofs.builder.Builder.choose.Goals as goal

pub choice-requires : goal.choice-requires
choice-requires c =
    let t = choice_net c.args.s c.in-Some.a.now c.in-Some.b.now c.loop-i.self.net in
    let more = choose_next c.args.s c.loop-i.self.net c.in-Some.ensures.steps.0 in
    loop_fits c.loop-i.invariant.0 (ap (λ r. r.0) (c.loop-i.invariant.1 ∙ ap (after (take c.loop-i.i-iterator.count c.loop-i.out)) more)) (choose_grows c.args.s c.next.new.self.iter.a.rest.now c.next.new.self.iter.b.rest.now t.0) c.requires.room

pub loop-i-preserved : goal.loop-i-preserved
loop-i-preserved c =
    let t = choice_net c.args.s c.in-Some.a.now c.in-Some.b.now c.loop-i.self.net in
    let more = choose_next c.args.s c.loop-i.self.net c.in-Some.ensures.steps.0 in
    let steps = c.in-Some.ensures.steps in (
      wrote_here c.loop-i.invariant.0 c.choice.ensures.wrote,
      bit_more (λ s n. alone (choose_net c.args.s c.next.new.self.iter.a.rest.now c.next.new.self.iter.b.rest.now n)) (t.0, (t.1, tt)) c.loop-i.out c.loop-i.i-iterator.count c.in-Some.i c.next.new.self.count c.choice.result tt steps.1 steps.2 (side_inside c.loop-i.invariant.2 steps.0 steps.1) (c.loop-i.invariant.1 ∙ ap (after (take c.loop-i.i-iterator.count c.loop-i.out)) more) c.choice.ensures.wrote c.choice.ensures.output refl,
      side_more c.loop-i.invariant.2 steps.0 steps.2 (length-set c.loop-i.out c.in-Some.i c.choice.result),
    )
