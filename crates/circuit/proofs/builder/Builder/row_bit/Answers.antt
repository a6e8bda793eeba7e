use Rattle.circuit.specs.Gates.{and_net}
use Rattle.circuit.specs.Circuits.{full_net}
use Rattle.circuit.specs.Parts.{row_bit_net}
use Rattle.circuit.proofs.Growing.{grows_same}
use Rattle.circuit.proofs.Circuits.{full_grows}
use Rattle.circuit.proofs.Writing.{fits_first, fits_then, wrote_then, gives_then}
use Rattle.circuit.proofs.builder.Builder.row_bit.Goals as goal

pub and-both-requires : goal.and-both-requires
unfolding row_bit_net
and-both-requires c =
    let both = and_net c.args.x c.args.y c.args.self.now.net in
    fits_first (full_grows both.1 c.args.above c.args.carry both.0) c.requires

pub full-requires : goal.full-requires
unfolding row_bit_net
full-requires c = fits_then (λ h k. (full_net h c.args.above c.args.carry k).0) c.and-both.ensures.wrote c.and-both.ensures.output (grows_same _) c.requires

pub returns : goal.returns
unfolding row_bit_net
returns c = record {
  wrote = wrote_then (λ h k. (full_net h c.args.above c.args.carry k).0) c.and-both.ensures.wrote c.and-both.ensures.output c.full.ensures.wrote;
  bit = gives_then (λ h k. (full_net h c.args.above c.args.carry k).1.0) c.and-both.ensures.wrote c.and-both.ensures.output c.full.ensures.bit;
  over = gives_then (λ h k. (full_net h c.args.above c.args.carry k).1.1) c.and-both.ensures.wrote c.and-both.ensures.output c.full.ensures.over;
}
