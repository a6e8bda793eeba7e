use Rattle.std.proofs.Common.{◌≡◌, length, subst, arith}
use Rattle.clauses.specs.Numbering.{Renames}
use Rattle.clauses.proofs.Forms.{well_variable}
use Rattle.clauses.proofs.Numbers.{renamed_all}
use Rattle.clauses.proofs.numbering.number_variables.Goals as goal

pub place-v-requires : goal.place-v-requires
place-v-requires c =
    let variable = well_variable _ _ c.args.formula.now.well c.args.formula.now.within c.loop-k.k (omega arith) (λ e. c.if-x-eq0.false (omega arith)) in
    omega arith

pub number_variable-count-requires-clause-known : goal.number_variable-count-requires-clause-known
number_variable-count-requires-clause-known c =
    let variable = well_variable _ _ c.args.formula.now.well c.args.formula.now.within c.loop-k.k (omega arith) (λ e. c.if-x-eq0.false (omega arith)) in
    omega arith

pub returns : goal.returns
returns c =
    let all : c.loop-k.k ≡ length c.args.formula.now.numbers.now = omega arith in
    let renames = subst (Renames c.args.formula.now.numbers.now c.loop-k.renamed c.loop-k.map) all c.loop-k.invariant.1 in
    renamed_all _ _ _ _ _ c.loop-k.invariant.0 renames (omega arith) (omega arith) c.args.formula.now.well c.requires.short
