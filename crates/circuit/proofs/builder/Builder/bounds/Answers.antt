use Rattle.std.proofs.Common.{◌≡◌, List, [], ◌∷◌, ap, ◌∙◌}
use Rattle.clauses.specs.declared.literal.Literal.{Literal}
use Rattle.clauses.specs.Literals.{negated}
use Rattle.circuit.specs.Nets.{low, said}
use Rattle.circuit.specs.Circuits.{less_net, any_net, unless_net}
use Rattle.circuit.proofs.Growing.{grows_same, grows_then, said_grows}
use Rattle.circuit.proofs.Circuits.{any_grows, unless_grows}
use Rattle.circuit.proofs.Writing.{fits_first, fits_next, fits_then, wrote_next, wrote_then}
use Rattle.circuit.proofs.builder.Builder.bounds.Goals as goal

-- a clause as the code has its literals
two : {p q r s : Literal} → p ≡ q → r ≡ s → ◌≡◌ {A = List Literal} (p ∷ r ∷ []) (q ∷ s ∷ [])
two {p} {q} {r} {s} e f = ap (λ z. z ∷ r ∷ []) e ∙ ap (λ z. q ∷ z ∷ []) f

pub less-less-requires : goal.less-less-requires
less-less-requires c =
    let l = less_net c.args.remainder.now c.args.y.now c.args.self.now.net in
    let a = any_net c.args.y.now low l.0 in
    let m = said (negated a.1 ∷ l.1 ∷ []) a.0 in
    record { operand = c.requires.operand; room = fits_first (grows_then (any_grows c.args.y.now low l.0) (grows_then (said_grows (negated a.1 ∷ l.1 ∷ []) a.0) (unless_grows a.1 c.args.quotient.now m))) c.requires.room }

pub any-some-requires : goal.any-some-requires
any-some-requires c =
    let l = less_net c.args.remainder.now c.args.y.now c.args.self.now.net in
    let a = any_net c.args.y.now low l.0 in
    let m = said (negated a.1 ∷ l.1 ∷ []) a.0 in
    fits_next (λ k. (any_net c.args.y.now low k).0) c.less-less.ensures.wrote (grows_then (said_grows (negated a.1 ∷ l.1 ∷ []) a.0) (unless_grows a.1 c.args.quotient.now m)) c.requires.room

pub clause-requires : goal.clause-requires
clause-requires c =
    let l = less_net c.args.remainder.now c.args.y.now c.args.self.now.net in
    let a = any_net c.args.y.now low l.0 in
    let m = said (negated a.1 ∷ l.1 ∷ []) a.0 in
    let wrote = wrote_next (λ k. (any_net c.args.y.now low k).0) c.less-less.ensures.wrote c.any-some.ensures.wrote in
    let some = c.any-some.ensures.output ∙ ap (λ k. (any_net c.args.y.now low k).1) c.less-less.ensures.wrote.net in
    fits_then said wrote (two (c.negated.ensures.value ∙ ap negated some) c.less-less.ensures.output) (unless_grows a.1 c.args.quotient.now m) c.requires.room

pub unless-requires : goal.unless-requires
unless-requires c =
    let wrote = wrote_next (λ k. (any_net c.args.y.now low k).0) c.less-less.ensures.wrote c.any-some.ensures.wrote in
    let some = c.any-some.ensures.output ∙ ap (λ k. (any_net c.args.y.now low k).1) c.less-less.ensures.wrote.net in
    let both = wrote_then said wrote (two (c.negated.ensures.value ∙ ap negated some) c.less-less.ensures.output) c.clause.ensures in
    fits_then (λ s k. unless_net s c.args.quotient.now k) both some (grows_same _) c.requires.room

pub returns : goal.returns
returns c =
    let wrote = wrote_next (λ k. (any_net c.args.y.now low k).0) c.less-less.ensures.wrote c.any-some.ensures.wrote in
    let some = c.any-some.ensures.output ∙ ap (λ k. (any_net c.args.y.now low k).1) c.less-less.ensures.wrote.net in
    let both = wrote_then said wrote (two (c.negated.ensures.value ∙ ap negated some) c.less-less.ensures.output) c.clause.ensures in
    wrote_then (λ s k. unless_net s c.args.quotient.now k) both some c.unless.ensures
