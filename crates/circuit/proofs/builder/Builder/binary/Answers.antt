use Rattle.std.proofs.Common.{ap, ◌∙◌, inl, inr}
use Rattle.circuit.specs.Bits.{flag}
use Rattle.circuit.specs.Nets.{low}
use Rattle.circuit.proofs.Filled.{flag_alike, zero_word}
use Rattle.circuit.proofs.builder.Builder.binary.Goals as goal

pub returns-in-Udiv-clause-result : goal.returns-in-Udiv-clause-result
returns-in-Udiv-clause-result c =
    let zero = zero_word c.args.out.now c.args.x.now c.fill.new.self c.requires.word (c.fill.ensures.after (λ y h. h)) in
    elim c.in-Udiv.is [ inl e ↦ rw e zero | inr e ↦ rw e zero ]

pub returns-in-Comp-clause-result : goal.returns-in-Comp-clause-result
returns-in-Comp-clause-result c = rw c.in-Comp.is (c.write_flag.ensures ∙ flag_alike low c.equal.result c.args.out.now c.args.x.now c.requires.word ∙ ap (λ b. flag low b c.args.x.now) c.equal.ensures.output)

pub returns-in-Ult-clause-result : goal.returns-in-Ult-clause-result
returns-in-Ult-clause-result c = rw c.in-Ult.is (c.write_flag-in-Ult.ensures ∙ flag_alike low c.less.result c.args.out.now c.args.x.now c.requires.word ∙ ap (λ b. flag low b c.args.x.now) c.less.ensures.output)

pub returns-in-Slt-clause-result : goal.returns-in-Slt-clause-result
returns-in-Slt-clause-result c = rw c.in-Slt.is (c.write_flag-in-Slt.ensures ∙ flag_alike low c.signed_less.result c.args.out.now c.args.x.now c.requires.word ∙ ap (λ b. flag low b c.args.x.now) c.signed_less.ensures.output)
