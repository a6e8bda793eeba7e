use Rattle.std.proofs.Common.{arith}
use Rattle.circuit.specs.Circuits.{denied_net, apart_net}
use Rattle.circuit.specs.Parts.{sums_net, bounded_net}
use Rattle.circuit.proofs.Growing.{grows_same, grows_then}
use Rattle.circuit.proofs.Circuits.{apart_grows, sums_grows, bounded_grows}
use Rattle.circuit.proofs.Writing.{fits_first, fits_next, wrote_next}
use Rattle.circuit.proofs.builder.Builder.divides.Goals as goal

pub deny-requires : goal.deny-requires
deny-requires c =
    let m = denied_net c.args.carries.now c.args.self.now.net in
    let k = apart_net c.args.y.now c.args.quotient.now m in
    fits_first (grows_then (apart_grows c.args.y.now c.args.quotient.now m) (grows_then (sums_grows c.args.product.now c.args.remainder.now c.args.x.now k) (bounded_grows c.args.remainder.now c.args.y.now c.args.quotient.now (sums_net c.args.product.now c.args.remainder.now c.args.x.now k)))) c.requires.room

pub separate-requires : goal.separate-requires
separate-requires c =
    let k = apart_net c.args.y.now c.args.quotient.now (denied_net c.args.carries.now c.args.self.now.net) in
    record { operand = omega arith; room = fits_next (apart_net c.args.y.now c.args.quotient.now) c.deny.ensures (grows_then (sums_grows c.args.product.now c.args.remainder.now c.args.x.now k) (bounded_grows c.args.remainder.now c.args.y.now c.args.quotient.now (sums_net c.args.product.now c.args.remainder.now c.args.x.now k))) c.requires.room }

pub sums-requires : goal.sums-requires
sums-requires c =
    let k = apart_net c.args.y.now c.args.quotient.now (denied_net c.args.carries.now c.args.self.now.net) in
    let wrote = wrote_next (apart_net c.args.y.now c.args.quotient.now) c.deny.ensures c.separate.ensures in
    record { short = c.requires.short; product = c.requires.product; remainder = c.requires.remainder; room = fits_next (sums_net c.args.product.now c.args.remainder.now c.args.x.now) wrote (bounded_grows c.args.remainder.now c.args.y.now c.args.quotient.now (sums_net c.args.product.now c.args.remainder.now c.args.x.now k)) c.requires.room }

pub bounds-requires : goal.bounds-requires
bounds-requires c =
    let wrote = wrote_next (sums_net c.args.product.now c.args.remainder.now c.args.x.now) (wrote_next (apart_net c.args.y.now c.args.quotient.now) c.deny.ensures c.separate.ensures) c.sums.ensures in
    record { operand = omega arith; room = fits_next (bounded_net c.args.remainder.now c.args.y.now c.args.quotient.now) wrote (grows_same _) c.requires.room }

pub returns : goal.returns
returns c =
    let wrote = wrote_next (sums_net c.args.product.now c.args.remainder.now c.args.x.now) (wrote_next (apart_net c.args.y.now c.args.quotient.now) c.deny.ensures c.separate.ensures) c.sums.ensures in
    wrote_next (bounded_net c.args.remainder.now c.args.y.now c.args.quotient.now) wrote c.bounds.ensures
