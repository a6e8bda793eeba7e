use Rattle.std.proofs.Common.{ap, ◌∙◌}
use Rattle.clauses.specs.Literals.{negated}
use Rattle.circuit.specs.Gates.{xor_net, and_net}
use Rattle.circuit.specs.Parts.{equal_bit_net}
use Rattle.circuit.proofs.Growing.{grows_same}
use Rattle.circuit.proofs.Circuits.{and_grows}
use Rattle.circuit.proofs.Writing.{fits_first, fits_then, wrote_then, gives_then}
use Rattle.circuit.proofs.builder.Builder.equal_bit.Goals as goal

pub xor-apart-requires : goal.xor-apart-requires
unfolding equal_bit_net
xor-apart-requires c =
    let apart = xor_net c.args.x c.args.y c.args.self.now.net in
    fits_first (and_grows c.args.before (negated apart.1) apart.0) c.requires

pub and-requires : goal.and-requires
unfolding equal_bit_net
and-requires c = fits_then (λ h k. (and_net c.args.before h k).0) c.xor-apart.ensures.wrote (c.negated-alike.ensures.value ∙ ap negated c.xor-apart.ensures.output) (grows_same _) c.requires

pub returns : goal.returns
unfolding equal_bit_net
returns c =
    let alike = c.negated-alike.ensures.value ∙ ap negated c.xor-apart.ensures.output in
    record {
      wrote = wrote_then (λ h k. (and_net c.args.before h k).0) c.xor-apart.ensures.wrote alike c.and.ensures.wrote;
      output = gives_then (λ h k. (and_net c.args.before h k).1) c.xor-apart.ensures.wrote alike c.and.ensures.output;
    }
