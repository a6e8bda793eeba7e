use Rattle.std.proofs.Common.{◌+◌, get_or, drop, ap, ◌∙◌}
use Rattle.circuit.specs.Gates.{or_net}
use Rattle.circuit.specs.Circuits.{any_net}
use Rattle.circuit.proofs.Circuits.{any_grows}
use Rattle.circuit.proofs.Writing.{wrote_here}
use Rattle.circuit.proofs.Loops.{loop_fits, carried_more}
use Rattle.circuit.proofs.Steps.{blank, any_more}
use Rattle.circuit.proofs.builder.Builder.any.Goals as goal

pub or-so_far-requires : goal.or-so_far-requires
or-so_far-requires c =
    let t = or_net c.loop-bit.so_far (get_or c.args.x.now c.loop-bit.bit-index blank) c.loop-bit.self.net in
    let more = any_more c.args.x.now c.loop-bit.bit-index c.loop-bit.so_far c.loop-bit.self.net c.loop-bit-test.true in
    loop_fits c.loop-bit.invariant.0 (ap (λ r. r.0) (c.loop-bit.invariant.1 ∙ more)) (any_grows (drop (c.loop-bit.bit-index + 1) c.args.x.now) t.1 t.0) c.requires

pub loop-bit-preserved : goal.loop-bit-preserved
loop-bit-preserved c =
    let t = or_net c.loop-bit.so_far (get_or c.args.x.now c.loop-bit.bit-index blank) c.loop-bit.self.net in
    let more = any_more c.args.x.now c.loop-bit.bit-index c.loop-bit.so_far c.loop-bit.self.net c.loop-bit-test.true in
    (wrote_here c.loop-bit.invariant.0 c.or-so_far.ensures.wrote, carried_more (any_net (drop (c.loop-bit.bit-index + 1) c.args.x.now)) t c.or-so_far.result (c.loop-bit.invariant.1 ∙ more) c.or-so_far.ensures.wrote c.or-so_far.ensures.output)
