use Rattle.std.proofs.Common.{length, take, ap, ◌∙◌, sym, subst, inl, inr, arith}
use Rattle.std.proofs.lemmas.List.{get_or-set_same, get_or-set_other, get_or-take, length-set}
use Rattle.std.proofs.lemmas.Bool.{cases_eq}
use Rattle.words.specs.Words.{bits}
use Rattle.terms.specs.Nodes.{Stands}
use Rattle.terms.proofs.Evaluated.{node_eval, words_before, words_more}
use Rattle.terms.proofs.Keeps.{sound_at}
use Rattle.terms.proofs.evaluation.evaluate.Goals as goal

pub node_value-requires-clause-words : goal.node_value-requires-clause-words
node_value-requires-clause-words c = words_before (bits c.args.assignment.now.width) c.loop-i.values c.loop-i.i (omega arith) c.loop-i.invariant.words

pub node_value-requires-clause-sound : goal.node_value-requires-clause-sound
node_value-requires-clause-sound c = sound_at _ _ _ _ c.loop-i.values c.loop-i.i (ap bits c.requires) c.as_slice-nodes.ensures.value c.loop-i-test.true (omega arith) c.args.rule.now.made

pub loop-i-preserved : goal.loop-i-preserved
loop-i-preserved c =
    let a = c.args.assignment.now in
    let ns = c.as_slice-nodes.result.now in
    let i = c.loop-i.i in
    let vs = c.loop-i.values in
    record {
      long = length-set vs i c.node_value.result ∙ c.loop-i.invariant.long;
      words = words_more (bits a.width) vs i c.node_value.result (omega arith) c.loop-i.invariant.words c.node_value.ensures.word;
      values = λ j e h s.
          elim (cases_eq j i) [
            | inl same ↦
                let there = subst (λ k. Stands ns k e) same s in
                rw same (get_or-set_same vs i c.node_value.result 0 (omega arith) ∙ c.node_value.ensures.value
                ∙ node_eval (bits a.width) a.any a.con (take i vs) ns i e (λ k f lt t. get_or-take i vs k 0 lt ∙ c.loop-i.invariant.values k f lt t) there)
            | inr ne ↦ get_or-set_other vs i j c.node_value.result 0 ne ∙ c.loop-i.invariant.values j e (omega arith) s
          ];
    }

pub returns : goal.returns
returns c = λ j e h s. rw (← c.requires) (c.loop-i.invariant.values j e (omega (arith, ap length c.as_slice-nodes.ensures.value)) (subst (λ ns. Stands ns j e) (sym c.as_slice-nodes.ensures.value) s))
