use Rattle.std.proofs.Common.{◌≡◌, refl, sym, subst, rules}
use Rattle.clauses.specs.Flat.{Hopeless}
use Rattle.clauses.proofs.Numbered.{renamed_hopeless}
use Rattle.clauses.proofs.Values.{signs_model}
use Rattle.kernel.specs.Scan.{Solution}
use Rattle.solver.proofs.Solutions.{solution_model}
use Rattle.solver.proofs.answer.find_counted.Goals as goal

pub returns-in-Never : goal.returns-in-Never
returns-in-Never g c =
    let same : c.run-answer.new.self.search.trail.clauses ≡ c.number_variables-variables.new.renamed = search rules in
    record { hopeless = renamed_hopeless _ _ _ _ _ c.number_variables-variables.ensures (subst Hopeless same c.in-Never.ensures.answer); same = refl }

pub returns-in-Met : goal.returns-in-Met
returns-in-Met g c =
    let made = c.number_variables-variables.ensures in
    let same : c.run-answer.new.self.search.trail.clauses ≡ c.number_variables-variables.new.renamed = search rules in
    let met : Solution c.run-answer.new.self.search.trail.clauses c.run-answer.new.self.search.trail.values = search rules in
    let solution = subst (λ ws. Solution ws c.values.result.now) same (subst (Solution c.run-answer.new.self.search.trail.clauses) (sym c.values.ensures.value) met) in
    record {
      map = c.number_variables-variables.new.map;
      values = c.values.result.now;
      model = signs_model _ _ _ _ _ made _ (solution_model _ _ made.well solution);
      written = c.write_model.ensures;
    }
