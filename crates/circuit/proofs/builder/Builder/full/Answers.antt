use Rattle.std.proofs.Common.{ap, ◌∙◌}
use Rattle.circuit.specs.Gates.{xor_net, majority_net}
use Rattle.circuit.proofs.Growing.{grows_same, grows_then}
use Rattle.circuit.proofs.Circuits.{xor_grows, majority_grows}
use Rattle.circuit.proofs.Writing.{fits_first, fits_next, fits_then, wrote_next, wrote_then, gives_then}
use Rattle.circuit.proofs.builder.Builder.full.Goals as goal

pub xor-half-requires : goal.xor-half-requires
xor-half-requires c =
    let half = xor_net c.args.x c.args.y c.args.self.now.net in
    let bit = xor_net half.1 c.args.carry half.0 in
    fits_first (grows_then (xor_grows half.1 c.args.carry half.0) (majority_grows c.args.x c.args.y c.args.carry bit.0)) c.requires

pub xor-bit-requires : goal.xor-bit-requires
xor-bit-requires c =
    let half = xor_net c.args.x c.args.y c.args.self.now.net in
    let bit = xor_net half.1 c.args.carry half.0 in
    fits_then (λ h k. (xor_net h c.args.carry k).0) c.xor-half.ensures.wrote c.xor-half.ensures.output (majority_grows c.args.x c.args.y c.args.carry bit.0) c.requires

pub majority-over-requires : goal.majority-over-requires
majority-over-requires c =
    let wrote = wrote_then (λ h k. (xor_net h c.args.carry k).0) c.xor-half.ensures.wrote c.xor-half.ensures.output c.xor-bit.ensures.wrote in
    fits_next (λ k. (majority_net c.args.x c.args.y c.args.carry k).0) wrote (grows_same _) c.requires

pub returns : goal.returns
returns c =
    let wrote = wrote_then (λ h k. (xor_net h c.args.carry k).0) c.xor-half.ensures.wrote c.xor-half.ensures.output c.xor-bit.ensures.wrote in
    record {
      wrote = wrote_next (λ k. (majority_net c.args.x c.args.y c.args.carry k).0) wrote c.majority-over.ensures.wrote;
      bit = gives_then (λ h k. (xor_net h c.args.carry k).1) c.xor-half.ensures.wrote c.xor-half.ensures.output c.xor-bit.ensures.output;
      over = c.majority-over.ensures.output ∙ ap (λ k. (majority_net c.args.x c.args.y c.args.carry k).1) wrote.net;
    }
