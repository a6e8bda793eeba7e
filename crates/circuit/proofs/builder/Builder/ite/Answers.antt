use Rattle.circuit.specs.Nets.{low}
use Rattle.circuit.specs.Circuits.{choose_net, any_net}
use Rattle.circuit.proofs.Growing.{grows_same}
use Rattle.circuit.proofs.Circuits.{choose_grows}
use Rattle.circuit.proofs.Writing.{fits_first, fits_then, wrote_then, gives_then}
use Rattle.circuit.proofs.builder.Builder.ite.Goals as goal

pub any-test-requires : goal.any-test-requires
any-test-requires c =
    let test = any_net c.args.t.now low c.args.self.now.net in
    fits_first (choose_grows test.1 c.args.x.now c.args.y.now test.0) c.requires.room

pub choose-requires : goal.choose-requires
choose-requires c = record { operand = c.requires.operand; word = c.requires.word; room = fits_then (λ s k. (choose_net s c.args.x.now c.args.y.now k).0) c.any-test.ensures.wrote c.any-test.ensures.output (grows_same _) c.requires.room }

pub returns : goal.returns
returns c = record {
  wrote = wrote_then (λ s k. (choose_net s c.args.x.now c.args.y.now k).0) c.any-test.ensures.wrote c.any-test.ensures.output c.choose.ensures.wrote;
  result = gives_then (λ s k. (choose_net s c.args.x.now c.args.y.now k).1) c.any-test.ensures.wrote c.any-test.ensures.output c.choose.ensures.result;
}
