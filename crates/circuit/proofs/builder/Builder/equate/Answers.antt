use Rattle.std.proofs.Common.{[], ◌∷◌, length, refl, ap, ◌∙◌, arith}
use Rattle.clauses.specs.Literals.{negated}
use Rattle.circuit.specs.Nets.{said}
use Rattle.circuit.specs.Circuits.{equated_net}
use Rattle.circuit.proofs.Growing.{grows_then, said_grows}
use Rattle.circuit.proofs.Circuits.{equated_grows}
use Rattle.circuit.proofs.Writing.{wrote_here, fits_next, wrote_next}
use Rattle.circuit.proofs.Loops.{loop_fits, loop_room, net_more}
use Rattle.circuit.proofs.Clauses.{equated_next}
use Rattle.circuit.proofs.builder.Builder.equate.Goals as goal

pub clause-requires : goal.clause-requires
clause-requires c =
    let first = said (c.negated.result ∷ c.in-Some.b.now ∷ []) c.loop-a.self.net in
    let second = said (c.in-Some.a.now ∷ negated c.in-Some.b.now ∷ []) first in
    let more = equated_next c.negated.result (negated c.in-Some.b.now) c.loop-a.self.net c.in-Some.ensures.steps c.negated.ensures.value refl in
    loop_fits c.loop-a.invariant.0 (c.loop-a.invariant.1 ∙ more) (grows_then (said_grows (c.in-Some.a.now ∷ negated c.in-Some.b.now ∷ []) first) (equated_grows c.next.new.self.a.rest.now c.next.new.self.b.rest.now second)) c.requires.room

pub clause-requires-in-loop-a : goal.clause-requires-in-loop-a
clause-requires-in-loop-a c =
    let first = said (c.negated.result ∷ c.in-Some.b.now ∷ []) c.loop-a.self.net in
    let second = said (c.in-Some.a.now ∷ c.negated-in-loop-a.result ∷ []) first in
    let more = equated_next c.negated.result c.negated-in-loop-a.result c.loop-a.self.net c.in-Some.ensures.steps c.negated.ensures.value c.negated-in-loop-a.ensures.value in
    fits_next (said (c.in-Some.a.now ∷ c.negated-in-loop-a.result ∷ [])) c.clause.ensures (equated_grows c.next.new.self.a.rest.now c.next.new.self.b.rest.now second) (loop_room c.loop-a.invariant.0 (c.loop-a.invariant.1 ∙ more) c.requires.room)

pub loop-a-preserved : goal.loop-a-preserved
loop-a-preserved c =
    let first = said (c.negated.result ∷ c.in-Some.b.now ∷ []) c.loop-a.self.net in
    let second = said (c.in-Some.a.now ∷ c.negated-in-loop-a.result ∷ []) first in
    let more = equated_next c.negated.result c.negated-in-loop-a.result c.loop-a.self.net c.in-Some.ensures.steps c.negated.ensures.value c.negated-in-loop-a.ensures.value in
    let wrote = wrote_next (said (c.in-Some.a.now ∷ c.negated-in-loop-a.result ∷ [])) c.clause.ensures c.clause-in-loop-a.ensures in (
      wrote_here c.loop-a.invariant.0 wrote,
      net_more (equated_net c.next.new.self.a.rest.now c.next.new.self.b.rest.now) second (c.loop-a.invariant.1 ∙ more) wrote,
      omega (arith, c.loop-a.invariant.2, ap length c.in-Some.ensures.steps.0, ap length c.in-Some.ensures.steps.1),
    )
