use Rattle.std.proofs.Common.{length, take, ap, ◌∙◌, sym, subst, refl, inl, inr, arith}
use Rattle.std.proofs.lemmas.List.{get_or-set_same, get_or-set_other, length-set, get_or-take}
use Rattle.std.proofs.lemmas.Bool.{cases_eq}
use Rattle.words.specs.Words.{bits}
use Rattle.terms.specs.Nodes.{Stands}
use Rattle.terms.specs.Measures.{nothing}
use Rattle.terms.proofs.Keeps.{sound_at}
use Rattle.terms.proofs.Measured.{bits_small, node_measure_lem}
use Rattle.terms.proofs.measure.node_measures.Goals as goal

pub node_measure-requires : goal.node_measure-requires
node_measure-requires c = sound_at _ _ _ _ c.loop-i.all c.loop-i.i refl c.as_slice-nodes.ensures.value c.loop-i-test.true (omega arith) c.args.rule.now.made

pub loop-i-preserved : goal.loop-i-preserved
loop-i-preserved c =
    let w = bits c.args.rule.now.width in
    let ns = c.as_slice-nodes.result.now in
    let i = c.loop-i.i in
    let ms = c.loop-i.all in
    record {
      long = length-set ms i c.node_measure.result ∙ c.loop-i.invariant.long;
      measures = λ j e h s.
          elim (cases_eq j i) [
            | inl same ↦
                let there = subst (λ k. Stands ns k e) same s in
                rw same (get_or-set_same ms i c.node_measure.result nothing (omega arith) ∙ c.node_measure.ensures
                ∙ node_measure_lem w ns (take i ms) i e (bits_small c.args.rule.now.width) (λ k f lt t. get_or-take i ms k nothing lt ∙ c.loop-i.invariant.measures k f lt t) there)
            | inr ne ↦ get_or-set_other ms i j c.node_measure.result nothing ne ∙ c.loop-i.invariant.measures j e (omega arith) s
          ];
    }

pub returns : goal.returns
returns c = λ j e h s. c.loop-i.invariant.measures j e (omega (arith, ap length c.as_slice-nodes.ensures.value)) (subst (λ ns. Stands ns j e) (sym c.as_slice-nodes.ensures.value) s)
