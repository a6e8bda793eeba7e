use Rattle.std.proofs.Common.{◌<◌, length, get_or, take, ap, ap₂, ◌∙◌, sym, take_all, arith}
use Rattle.std.proofs.lemmas.List.{take_more}
use Rattle.words.specs.Words.{bits}
use Rattle.terms.specs.Measures.{measure_all, together}
use Rattle.terms.specs.Terms.{any}
use Rattle.terms.proofs.Measured.{measure_push, root_measure}
use Rattle.terms.proofs.Roots.{root_count, need_count, need_root, from_root, to_root}
use Rattle.terms.proofs.measure.RuleMeasure.of.Goals as goal

pub returns-in_default : goal.returns-in_default
returns-in_default c = λ r rep. absurd (omega (arith, root_count c.args.rule.now r rep, ap length c.as_slice.ensures.value))

pub loop-root-preserved : goal.loop-root-preserved
loop-root-preserved c = λ r rep.
    let x = c.args.rule.now in
    let ks = c.as_slice.result.now in
    let k = c.loop-root.root-index in
    let w = bits r.width in
    let below : k < length r.needs = omega (arith, need_count x r ks rep c.as_slice.ensures.value) in
    let need = root_measure x r c.node_measures-all.result _ _ c.node_measures-all.ensures rep (need_root x r ks rep c.as_slice.ensures.value k below) in
    c.and-needs.ensures ∙ ap₂ together (c.loop-root.invariant r rep) need ∙ measure_push w (take k r.needs) (get_or r.needs k (any 0))
    ∙ ap (measure_all w) (sym (take_more r.needs k (any 0) below))

pub returns : goal.returns
returns c = λ r rep.
    let x = c.args.rule.now in
    let ks = c.as_slice.result.now in
    let ms = c.node_measures-all.result in
    let all = c.node_measures-all.ensures in
    let needs = c.loop-root.invariant r rep ∙ ap (measure_all (bits r.width)) (take_all _ r.needs (omega (arith, need_count x r ks rep c.as_slice.ensures.value))) in
    let from = root_measure x r ms _ r.from all rep (from_root x r ks rep c.as_slice.ensures.value) in
    let to = root_measure x r ms _ r.to all rep (to_root x r ks rep c.as_slice.ensures.value) in
    rw (needs, from, to)
