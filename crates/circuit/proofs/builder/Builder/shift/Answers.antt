use Rattle.std.proofs.Common.{◌+◌, ◌-◌, length, get_or, take, drop, sym, ap, ◌∙◌, arith}
use Rattle.std.proofs.lemmas.List.{take_rest}
use Rattle.circuit.specs.Bits.{moved}
use Rattle.circuit.specs.Nets.{low}
use Rattle.circuit.specs.Circuits.{choose_net, any_net, shift_net}
use Rattle.circuit.proofs.Growing.{grows_same}
use Rattle.circuit.proofs.Circuits.{choose_grows, shift_grows}
use Rattle.circuit.proofs.Writing.{wrote_here, fits_then, wrote_then, gives_then}
use Rattle.circuit.proofs.Loops.{loop_fits, loop_room, loop_last, carried_more}
use Rattle.circuit.proofs.Steps.{blank, shift_past, shift_more}
use Rattle.circuit.proofs.builder.Builder.shift.Goals as goal

pub any-past-requires : goal.any-past-requires
any-past-requires c =
    let count = take (length c.args.count.now - c.loop-i.i) (drop c.loop-i.i c.args.count.now) in
    let past = shift_past c.args.direction c.args.incoming (length c.args.x.now) c.loop-i.places c.loop-i.out c.args.count.now count c.loop-i.i c.loop-i.self.net c.loop-i-test.true (omega arith) (omega arith) (take_rest c.args.count.now c.loop-i.i) in
    let a = any_net count low c.loop-i.self.net in
    loop_fits c.loop-i.invariant.0 (ap (λ r. r.0) (c.loop-i.invariant.1 ∙ past)) (choose_grows a.1 (moved c.args.direction c.args.incoming c.loop-i.places c.loop-i.out) c.loop-i.out a.0) c.requires.room

pub stage-requires : goal.stage-requires
stage-requires c =
    let count = take (length c.args.count.now - c.loop-i.i) (drop c.loop-i.i c.args.count.now) in
    let past = shift_past c.args.direction c.args.incoming (length c.args.x.now) c.loop-i.places c.loop-i.out c.args.count.now count c.loop-i.i c.loop-i.self.net c.loop-i-test.true (omega arith) (omega arith) (take_rest c.args.count.now c.loop-i.i) in
    let room = loop_room c.loop-i.invariant.0 (ap (λ r. r.0) (c.loop-i.invariant.1 ∙ past)) c.requires.room in
    record { short = omega arith; room = fits_then (λ s k. (choose_net s (moved c.args.direction c.args.incoming c.loop-i.places c.loop-i.out) c.loop-i.out k).0) c.any-past.ensures.wrote c.any-past.ensures.output (grows_same _) room }

pub returns-then-places-x : goal.returns-then-places-x
returns-then-places-x c =
    let count = take (length c.args.count.now - c.loop-i.i) (drop c.loop-i.i c.args.count.now) in
    let past = shift_past c.args.direction c.args.incoming (length c.args.x.now) c.loop-i.places c.loop-i.out c.args.count.now count c.loop-i.i c.loop-i.self.net c.loop-i-test.true (omega arith) (omega arith) (take_rest c.args.count.now c.loop-i.i) in
    let whole = c.loop-i.invariant.1 ∙ past in
    record {
      wrote = loop_last c.loop-i.invariant.0 (ap (λ r. r.0) whole) (wrote_then (λ s k. (choose_net s (moved c.args.direction c.args.incoming c.loop-i.places c.loop-i.out) c.loop-i.out k).0) c.any-past.ensures.wrote c.any-past.ensures.output c.stage.ensures.wrote);
      result = gives_then (λ s k. (choose_net s (moved c.args.direction c.args.incoming c.loop-i.places c.loop-i.out) c.loop-i.out k).1) c.any-past.ensures.wrote c.any-past.ensures.output c.stage.ensures.result ∙ sym (ap (λ r. r.1) whole);
    }

pub stage-requires-in-loop-i : goal.stage-requires-in-loop-i
stage-requires-in-loop-i c =
    let t = choose_net (get_or c.args.count.now c.loop-i.i blank) (moved c.args.direction c.args.incoming c.loop-i.places c.loop-i.out) c.loop-i.out c.loop-i.self.net in
    let more = shift_more c.args.direction c.args.incoming (length c.args.x.now) c.loop-i.places c.loop-i.out c.args.count.now c.loop-i.i c.loop-i.self.net c.loop-i-test.true (omega arith) in
    record { short = omega arith; room = loop_fits c.loop-i.invariant.0 (ap (λ r. r.0) (c.loop-i.invariant.1 ∙ more)) (shift_grows c.args.direction c.args.incoming (length c.args.x.now) (c.loop-i.places + c.loop-i.places) t.1 (drop (c.loop-i.i + 1) c.args.count.now) t.0) c.requires.room }

pub loop-i-preserved : goal.loop-i-preserved
loop-i-preserved c =
    let t = choose_net (get_or c.args.count.now c.loop-i.i blank) (moved c.args.direction c.args.incoming c.loop-i.places c.loop-i.out) c.loop-i.out c.loop-i.self.net in
    let more = shift_more c.args.direction c.args.incoming (length c.args.x.now) c.loop-i.places c.loop-i.out c.args.count.now c.loop-i.i c.loop-i.self.net c.loop-i-test.true (omega arith) in (
      wrote_here c.loop-i.invariant.0 c.stage-in-loop-i.ensures.wrote,
      carried_more (λ s k. shift_net c.args.direction c.args.incoming (length c.args.x.now) (c.loop-i.places + c.loop-i.places) s (drop (c.loop-i.i + 1) c.args.count.now) k) t c.stage-in-loop-i.new.word (c.loop-i.invariant.1 ∙ more) c.stage-in-loop-i.ensures.wrote c.stage-in-loop-i.ensures.result,
    )
