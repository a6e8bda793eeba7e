use Rattle.std.proofs.Common.{◌+◌, get_or, refl, ap, ◌∙◌, arith}
use Rattle.std.proofs.lemmas.List.{set-get_or}
use Rattle.words.specs.Words.{bits}
use Rattle.small_rules.proofs.Turns.{words_set, turning_zero, turning_past, turning_up}
use Rattle.small_rules.proofs.trial.turn.Goals as goal
use Rattle.small_rules.proofs.trial.turn.Goals.{then-used-k+else-value-most, else-used-k}

pub loop-k-init : goal.loop-k-init
loop-k-init c = record {
  words = λ j. omega (arith, c.requires j, c.mask-most.ensures);
  low = λ j h u.
      let z : ⊥ = omega arith in
      absurd z;
  high = λ j h. refl;
}

pub returns-then-value-most : goal.returns-then-value-most
returns-then-value-most c =
    let all = words_set c.mask-most.result c.loop-k.values c.loop-k.k (get_or c.loop-k.values c.loop-k.k 0 + 1) (omega arith) c.loop-k.invariant.words (omega (arith, c.if-value-most.true)) in
    record {
      words = λ j. omega (arith, all j, c.mask-most.ensures);
      turned = turning_up c.args.used.now c.mask-most.result (bits c.args.width) c.args.values.now c.loop-k.values c.loop-k.k c.mask-most.ensures (omega arith) c.loop-k.invariant;
    }

pub loop-k-preserved : goal.loop-k-preserved
loop-k-preserved c =
    elim c.if-used-k.branch [
      | then-used-k+else-value-most w ↦ rw w.values-is (turning_zero c.args.used.now c.mask-most.result c.args.values.now c.loop-k.values c.loop-k.k (omega arith) (omega (arith, w.if-value-most.false)) c.loop-k.invariant)
      | else-used-k w ↦ rw (w.values-is, set-get_or c.loop-k.values c.loop-k.k 0) (turning_past c.args.used.now c.mask-most.result c.args.values.now c.loop-k.values c.loop-k.k w.if-used-k.false c.loop-k.invariant)
    ]

pub returns : goal.returns
returns c = record {
  words = λ j. omega (arith, c.loop-k.invariant.words j, c.mask-most.ensures);
  turned = λ j lt u.
      let p = c.loop-k.invariant.low j (omega arith) u in
      (ap (λ n. n + 1) p.0 ∙ c.mask-most.ensures, p.1);
}
