use Rattle.std.proofs.Common.{subst}
use Rattle.circuit.specs.Nets.{high}
use Rattle.circuit.specs.Circuits.{inverted, unary_net, add_net}
use Rattle.circuit.specs.Built.{Fits}
use Rattle.circuit.proofs.Growing.{grows_same}
use Rattle.circuit.proofs.Writing.{wrote_none, fits_then, wrote_then, gives_then}
use Rattle.circuit.proofs.Filled.{zero_front}
use Rattle.circuit.proofs.builder.Builder.unary.Goals as goal

pub add-requires-clause-room : goal.add-requires-clause-room
add-requires-clause-room c = fits_then (λ l k. (add_net l (inverted c.args.x.now) high k).0) (wrote_none c.args.self.now) (zero_front 64 c.args.x.now c.requires.short) (grows_same _) (subst (λ o. Fits c.args.self.now (unary_net o c.args.x.now c.args.self.now.net).0) c.in-Neg.is c.requires.room)

pub returns-in-Neg-clause-wrote : goal.returns-in-Neg-clause-wrote
returns-in-Neg-clause-wrote c = rw c.in-Neg.is (wrote_then (λ l k. (add_net l (inverted c.args.x.now) high k).0) (wrote_none c.args.self.now) (zero_front 64 c.args.x.now c.requires.short) c.add.ensures.wrote)

pub returns-in-Neg-clause-result : goal.returns-in-Neg-clause-result
returns-in-Neg-clause-result c = rw c.in-Neg.is (gives_then (λ l k. (add_net l (inverted c.args.x.now) high k).1.0) (wrote_none c.args.self.now) (zero_front 64 c.args.x.now c.requires.short) c.add.ensures.sum)
