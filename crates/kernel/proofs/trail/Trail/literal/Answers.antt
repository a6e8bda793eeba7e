use Rattle.std.proofs.Common.{◌∙◌, ◌<◌, sym, ap, subst, arith}
use Rattle.std.proofs.lemmas.List.{length-take-le, get_or-take}
use Rattle.clauses.specs.Flat.{lit_truth, Model}
use Rattle.kernel.specs.Trail.{Trailed, NoDecision}
use Rattle.kernel.proofs.Blaming.{level_zero}
use Rattle.kernel.proofs.Trails.{few}
use Rattle.kernel.proofs.trail.Trail.literal.Goals as goal

pub returns-clause-settled : goal.returns-clause-settled
returns-clause-settled c = λ first s before none model.
    let st = c.self.invariant in
    let apart = subst (λ (t : Trailed). NoDecision t.kinds first) (sym c.self.view_is) none in
    let in_use : c.args.p < c.self.inside.len = omega (arith, apart.within, before, length-take-le c.self.inside.len c.self.inside.kinds.now (few _ _ _ _ _ st).0) in
    ap (lit_truth s) (get_or-take _ _ _ _ in_use) ∙ level_zero _ _ _ _ _ _ st apart s (subst (λ (t : Trailed). Model s t.clauses) (sym c.self.view_is) model) c.args.p before
