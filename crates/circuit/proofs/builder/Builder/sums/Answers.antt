use Rattle.std.proofs.Common.{length, [], ◌∷◌, ap, ◌∙◌, length-take-le}
use Rattle.clauses.specs.Literals.{negated}
use Rattle.circuit.specs.Nets.{low, said}
use Rattle.circuit.specs.Circuits.{add_net, equated_net}
use Rattle.circuit.proofs.Growing.{grows_same, grows_then, said_grows}
use Rattle.circuit.proofs.Circuits.{equated_grows}
use Rattle.circuit.proofs.Writing.{fits_first, fits_then, wrote_then}
use Rattle.circuit.proofs.Filled.{front_written}
use Rattle.circuit.proofs.builder.Builder.sums.Goals as goal

pub add-over-requires-clause-room : goal.add-over-requires-clause-room
add-over-requires-clause-room c =
    let s = add_net c.args.product.now c.args.remainder.now low c.args.self.now.net in
    let m = said (negated s.1.1 ∷ []) s.0 in
    fits_first (grows_then (said_grows (negated s.1.1 ∷ []) s.0) (equated_grows s.1.0 c.args.x.now m)) c.requires.room

pub clause-requires : goal.clause-requires
clause-requires c =
    let s = add_net c.args.product.now c.args.remainder.now low c.args.self.now.net in
    let m = said (negated s.1.1 ∷ []) s.0 in
    fits_then (λ l k. said (l ∷ []) k) c.add-over.ensures.wrote (c.negated.ensures.value ∙ ap negated c.add-over.ensures.over) (equated_grows s.1.0 c.args.x.now m) c.requires.room

pub equate-requires-clause-room : goal.equate-requires-clause-room
equate-requires-clause-room c =
    let wrote = wrote_then (λ l k. said (l ∷ []) k) c.add-over.ensures.wrote (c.negated.ensures.value ∙ ap negated c.add-over.ensures.over) c.clause.ensures in
    let sum = front_written (length c.args.x.now) c.add-over.new.out _ (c.add-over.auto.out ∙ length-take-le (length c.args.x.now) _ c.requires.short) ∙ c.add-over.ensures.sum in
    fits_then (λ l k. equated_net l c.args.x.now k) wrote sum (grows_same _) c.requires.room

pub returns : goal.returns
returns c =
    let wrote = wrote_then (λ l k. said (l ∷ []) k) c.add-over.ensures.wrote (c.negated.ensures.value ∙ ap negated c.add-over.ensures.over) c.clause.ensures in
    let sum = front_written (length c.args.x.now) c.add-over.new.out _ (c.add-over.auto.out ∙ length-take-le (length c.args.x.now) _ c.requires.short) ∙ c.add-over.ensures.sum in
    wrote_then (λ l k. equated_net l c.args.x.now k) wrote sum c.equate.ensures
