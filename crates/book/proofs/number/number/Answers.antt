use Rattle.std.proofs.Common.{◌≡◌, ◌<◌, ℕ, List, [], ◌∷◌, length, get_or, take, Some, None, slice_get, sym, refl, ap, ◌∙◌, subst, arith}
use Rattle.std.proofs.lemmas.List.{take_all}
use Rattle.book.specs.Text.{decimal}
use Rattle.book.proofs.Numbers.{value_from, Digits, empty_no_number, zero_no_number, stops_no_number, value_more, all_more, decimal_value}
use Rattle.book.proofs.number.number.Goals as goal
use Rattle.book.proofs.number.number.Goals.{else-first-eq48-via-then-first-eq48+else-word-gt1, else-first-eq48-via-else-first-eq48}

no_first : (w : List ℕ) → None ≡ slice_get w 0 → length w ≡ 0
no_first [] e = refl
no_first (c ∷ cs) e = cc

first_is : (w : List ℕ) (c : ℕ) → Some c ≡ slice_get w 0 → get_or w 0 0 ≡ c
first_is [] c e = cc
first_is (d ∷ ds) c e = cc

some_first : (w : List ℕ) (c : ℕ) → Some c ≡ slice_get w 0 → 0 < length w
some_first [] c e = cc
some_first (d ∷ ds) c e = omega arith

pub returns-in_err-first : goal.returns-in_err-first
returns-in_err-first c = rw c.from_residual.ensures (empty_no_number _ (no_first c.args.word.now c.in_err-first.ensures.value))

pub returns-then-word-gt1 : goal.returns-then-word-gt1
returns-then-word-gt1 c = zero_no_number _ c.if-word-gt1.true (first_is c.args.word.now _ c.in_ok-first.ensures.value ∙ c.if-first-eq48.true)

pub returns-in_err-n : goal.returns-in_err-n
returns-in_err-n c =
    rw c.from_residual-in_err-n.ensures
    (stops_no_number c.args.word.now c.loop-c.c-index c.loop-c-test.true (λ lo hi. let n = c.loop-c.invariant.value in let over = c.in_err-n.ensures lo hi in omega arith))

pub loop-c-preserved : goal.loop-c-preserved
loop-c-preserved c =
    let digit = c.in_ok-n.ensures in
    let is = digit.0 in
    let n = c.loop-c.invariant.value in
    let more = value_more c.args.word.now c.loop-c.c-index c.loop-c-test.true in
    record {
      value = omega arith;
      digits = all_more c.args.word.now c.loop-c.c-index c.loop-c-test.true c.loop-c.invariant.digits digit.1 digit.2;
      fits = digit.3;
    }

pub returns : goal.returns
returns c =
    let w = c.args.word.now in
    let whole : take c.loop-c.c-index w ≡ w = take_all _ w c.loop-c-test.false in
    let n : c.loop-c.n ≡ value_from 0 w = c.loop-c.invariant.value ∙ ap (value_from 0) whole in
    let first = c.in_ok-first.ensures.value in
    let front : 1 < length w → get_or w 0 0 ≡ 48 → ⊥ =
    λ long zero. elim c.else-first-eq48.branch [
      | else-first-eq48-via-then-first-eq48+else-word-gt1 p ↦ omega (arith, p.if-word-gt1.false)
      | else-first-eq48-via-else-first-eq48 p ↦ p.if-first-eq48.false (sym (first_is w _ first) ∙ zero)
    ] in (
      sym (ap decimal n ∙ decimal_value w (some_first w _ first) (subst Digits whole c.loop-c.invariant.digits) front (omega (arith, c.loop-c.invariant.fits))),
      c.loop-c.invariant.fits,
    )
