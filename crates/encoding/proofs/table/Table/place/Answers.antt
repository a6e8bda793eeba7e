use Rattle.std.proofs.Common.{◌<◌, sym, ap, ◌++◌, [], ◌∷◌, length, ◌∙◌, arith}
use Rattle.std.proofs.lemmas.List.{take_more_set}
use Rattle.encoding.specs.Lists.{counted}
use Rattle.encoding.proofs.Filling.{filled_more}
use Rattle.encoding.proofs.Placing.{place_old, place_new}
use Rattle.encoding.proofs.table.Table.place.Goals as goal

pub returns-in-Some-clause-table : goal.returns-in-Some-clause-table
returns-in-Some-clause-table c = (place_old c.args.entry c.args.self.now c.in-Some.i (sym c.find.ensures ∙ c.in-Some.is)).0

pub returns-in-Some-clause-place : goal.returns-in-Some-clause-place
returns-in-Some-clause-place c = (place_old c.args.entry c.args.self.now c.in-Some.i (sym c.find.ensures ∙ c.in-Some.is)).1

pub invariant_of-self : goal.invariant_of-self
invariant_of-self c = filled_more _ _ _ _ _ c.args.self.now c.requires c.self.view_is c.self.invariant

pub returns-in-None-clause-table : goal.returns-in-None-clause-table
returns-in-None-clause-table c =
    let t = c.self.inside in
    let end : t.len < length t.entries = omega (arith, c.requires, c.self.invariant.size, counted _ _ t.len t.entries c.self.invariant, ap length c.self.view_is) in
    take_more_set t.entries t.len c.args.entry end ∙ ap (λ xs. xs ++ (c.args.entry ∷ [])) c.self.view_is ∙ (place_new c.args.entry c.args.self.now (sym c.find.ensures ∙ c.in-None.is)).0

pub returns-in-None-clause-place : goal.returns-in-None-clause-place
returns-in-None-clause-place c =
    let t = c.self.inside in
    sym (counted _ _ t.len t.entries c.self.invariant) ∙ ap length c.self.view_is ∙ (place_new c.args.entry c.args.self.now (sym c.find.ensures ∙ c.in-None.is)).1
