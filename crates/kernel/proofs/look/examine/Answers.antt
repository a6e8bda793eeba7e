use Rattle.std.proofs.Common.{◌≡◌, ◌≤◌, ◌+◌, ◌/◌, ◌∙◌, length, get_or, IfSome, sym, ap, subst, zero-add, arith, rules}
use Rattle.kernel.proofs.Looking.{Looked, code, looked_again, looked_false, looked_free, looked_clash, looked_forced}
use Rattle.kernel.proofs.look.examine.Goals as goal
use Rattle.kernel.proofs.look.examine.Goals.{then-v-eq0+in-None, then-v-eq0+in-Some+else-ne, else-v-eq0}

pub bounds-values-index : goal.bounds-values-index
bounds-values-index c =
    let at = zero-add c.loop-code.code-index in
    let word = c.requires.clause.words c.loop-code.code-index c.loop-code-test.true in
    omega (arith, word.half, ap (λ k. get_or c.args.literals.now k 0) at)

pub loop-code-preserved : goal.loop-code-preserved
loop-code-preserved c =
    let inv = c.loop-code.invariant.0 in
    let some = c.loop-code.invariant.1 in
    let at : get_or c.args.literals.now (0 + c.loop-code.code-index) 0 ≡ get_or c.args.literals.now c.loop-code.code-index 0 = ap (λ k. get_or c.args.literals.now k 0) (zero-add c.loop-code.code-index) in
    let here : get_or c.args.literals.now (0 + c.loop-code.code-index) 0 / 2 ≡ c.index.result = omega arith in
    let value : get_or c.args.values.now (get_or c.args.literals.now (0 + c.loop-code.code-index) 0 / 2) 0 ≡ get_or c.args.values.now c.index.result 0 = ap (λ i. get_or c.args.values.now i 0) here in
    let word = c.requires.clause.words c.loop-code.code-index c.loop-code-test.true in
    elim c.if-v-eq0.branch [
      | then-v-eq0+in-None w ↦ (
        looked_free _ _ _ _ _ _ _ _ c.requires.clause c.loop-code-test.true (ap code w.in-None.is) (ap code w.unit-is ∙ sym at) (value ∙ w.if-v-eq0.true) inv,
        subst (λ o. IfSome o (λ x. 2 ≤ x.0)) (sym w.unit-is) (omega (arith, word.lit)),
      )
      | then-v-eq0+in-Some+else-ne w ↦
          let same : w.in-Some.y.0 ≡ get_or c.args.literals.now c.loop-code.code-index 0 = search rules in (
            looked_again _ _ _ _ _ inv _ (ap code (w.unit-is ∙ sym w.in-Some.is)) (at ∙ sym same ∙ sym (ap code w.in-Some.is)),
            subst (λ o. IfSome o (λ x. 2 ≤ x.0)) (w.in-Some.is ∙ sym w.unit-is) some,
          )
      | else-v-eq0 w ↦ (
        looked_false _ _ _ _ _ inv _ (ap code w.unit-is) (record { set = λ z. w.if-v-eq0.false (sym value ∙ z); other = λ e. c.if-v-x.false (sym value ∙ e ∙ at) }),
        subst (λ o. IfSome o (λ x. 2 ≤ x.0)) (sym w.unit-is) some,
      )
    ]

pub returns-in-None-unit : goal.returns-in-None-unit
returns-in-None-unit c =
    let all : c.loop-code.code-index ≡ length c.args.literals.now = omega arith in
    looked_clash c.args.clauses.now c.args.values.now c.args.literals.now 0 (length c.args.literals.now) _ c.requires.own c.requires.clause
    (subst (λ k. Looked c.args.values.now c.args.literals.now 0 k (code c.loop-code.unit)) all c.loop-code.invariant.0) (ap code c.in-None-unit.is)

pub returns-in-Some-unit : goal.returns-in-Some-unit
returns-in-Some-unit c =
    let all : c.loop-code.code-index ≡ length c.args.literals.now = omega arith in
    let lit = subst (λ o. IfSome o (λ x. 2 ≤ x.0)) c.in-Some-unit.is c.loop-code.invariant.1 in
    let looked = subst (λ k. Looked c.args.values.now c.args.literals.now 0 k (code c.loop-code.unit)) all c.loop-code.invariant.0 in
    looked_forced c.args.clauses.now c.args.values.now c.args.literals.now 0 (length c.args.literals.now) _ c.requires.own c.requires.clause
    (subst (Looked c.args.values.now c.args.literals.now 0 (length c.args.literals.now)) (ap code c.in-Some-unit.is) looked) (λ z. omega arith)
