use Rattle.std.proofs.Common.{◌+◌, ◌-◌, ◌<◌, [], ◌∷◌, length, take, drop, refl, ap, ◌∙◌, length-append, arith}
use Rattle.circuit.specs.Circuits.{none_net, apart_net}
use Rattle.circuit.proofs.Circuits.{apart_grows}
use Rattle.circuit.proofs.Writing.{wrote_here}
use Rattle.circuit.proofs.Loops.{loop_fits, net_more}
use Rattle.circuit.proofs.ProductLoops.{part_rest}
use Rattle.circuit.proofs.Clauses.{apart_next}
use Rattle.circuit.proofs.builder.Builder.separate.Goals as goal

pub exclude-requires : goal.exclude-requires
exclude-requires c =
    let part = take (length c.args.x.now - (c.in-Some.i + 1)) (drop (c.in-Some.i + 1) c.args.x.now) in
    let steps = c.in-Some.ensures.steps in
    let inside : c.in-Some.i < length c.args.x.now = omega (arith, c.loop-i.invariant.2, steps.1, ap length steps.0, length-append c.next.new.self.iter.iter.rest.now (c.in-Some.bit.now ∷ [])) in
    let more = apart_next c.args.x.now part c.next.new.self.iter.iter.rest.now c.in-Some.bit.now c.loop-i.i-iterator.count c.in-Some.i c.next.new.self.count c.loop-i.self.net steps.1 steps.2 inside steps.0 (part_rest c.args.x.now (c.in-Some.i + 1) (length c.args.x.now) refl) in
    loop_fits c.loop-i.invariant.0 (c.loop-i.invariant.1 ∙ more) (apart_grows (drop c.next.new.self.count c.args.x.now) c.next.new.self.iter.iter.rest.now (none_net c.in-Some.bit.now part c.loop-i.self.net)) c.requires.room

pub loop-i-preserved : goal.loop-i-preserved
loop-i-preserved c =
    let part = take (length c.args.x.now - (c.in-Some.i + 1)) (drop (c.in-Some.i + 1) c.args.x.now) in
    let steps = c.in-Some.ensures.steps in
    let long = length-append c.next.new.self.iter.iter.rest.now (c.in-Some.bit.now ∷ []) in
    let inside : c.in-Some.i < length c.args.x.now = omega (arith, c.loop-i.invariant.2, steps.1, ap length steps.0, long) in
    let more = apart_next c.args.x.now part c.next.new.self.iter.iter.rest.now c.in-Some.bit.now c.loop-i.i-iterator.count c.in-Some.i c.next.new.self.count c.loop-i.self.net steps.1 steps.2 inside steps.0 (part_rest c.args.x.now (c.in-Some.i + 1) (length c.args.x.now) refl) in (
      wrote_here c.loop-i.invariant.0 c.exclude.ensures,
      net_more (apart_net (drop c.next.new.self.count c.args.x.now) c.next.new.self.iter.iter.rest.now) (none_net c.in-Some.bit.now part c.loop-i.self.net) (c.loop-i.invariant.1 ∙ more) c.exclude.ensures,
      omega (arith, c.loop-i.invariant.2, steps.2, ap length steps.0, long),
    )
