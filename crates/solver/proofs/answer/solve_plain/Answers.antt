use Rattle.std.proofs.Common.{◌≡◌, ◌-◌, ◌/◌, get_or, sym, subst, arith, rules}
use Rattle.kernel.specs.Scan.{Solution}
use Rattle.solver.proofs.Solutions.{plain_model}
use Rattle.solver.proofs.answer.solve_plain.Goals as goal

pub returns-in-Met : goal.returns-in-Met
returns-in-Met c =
    let ws = c.args.formula.now.numbers.now in
    let same : c.search_plain.new.trail.clauses ≡ c.args.formula.now.numbers.now = search rules in
    let met : Solution c.search_plain.new.trail.clauses c.search_plain.new.trail.values = search rules in
    let solution = subst (λ ws. Solution ws c.values.result.now) same (subst (Solution c.search_plain.new.trail.clauses) (sym c.values.ensures.value) met) in
    record {
      map = c.number_in_order.new.map;
      values = c.values.result.now;
      model = plain_model c.args.formula.now.numbers.now c.number_in_order.new.map c.values.result.now c.args.formula.now.well
          (λ k lt lit.
          let w = c.args.formula.now.within k lt in
          let word = c.args.formula.now.words k in
          let n = c.number_in_order.ensures.same (get_or c.args.formula.now.numbers.now k 0 / 2 - 1) (omega arith) (omega arith) in
          omega arith)
          solution;
      written = c.write_model.ensures;
    }
