use Rattle.std.proofs.Common.{refl}
use Rattle.std.proofs.lemmas.List.{get_or-replicate}
use Rattle.std.proofs.lemmas.Bool.{false≢true}
use Rattle.small_rules.proofs.Trying.{tried_none, tried_next, tried_all}
use Rattle.small_rules.proofs.trial.holds_by_trying.Goals as goal

pub loop-init : goal.loop-init
loop-init c =
    tried_none c.args.rule.now c.of-names.result.any c.of-names.result.con _ refl (λ j lt. get_or-replicate 16 j 0 0 lt) (λ j lt. get_or-replicate 16 j 0 0 lt)

pub fails_at_with_room-requires : goal.fails_at_with_room-requires
fails_at_with_room-requires c = c.loop.invariant.width

pub returns-then-not-advance : goal.returns-then-not-advance
returns-then-not-advance c =
    tried_all c.args.rule.now c.of-names.result.any c.of-names.result.con c.loop.assignment c.of-names.ensures c.loop.invariant (λ r rep f. false≢true ((c.if-fails_at_with_room.ensures r rep).1 f)) c.advance.new.assignment c.if-not-advance.ensures.advanced

pub loop-preserved : goal.loop-preserved
loop-preserved c =
    tried_next c.args.rule.now c.of-names.result.any c.of-names.result.con c.loop.assignment c.of-names.ensures c.loop.invariant (λ r rep f. false≢true ((c.if-fails_at_with_room.ensures r rep).1 f)) c.advance.new.assignment c.advance.ensures.width c.if-not-advance.ensures.advanced
