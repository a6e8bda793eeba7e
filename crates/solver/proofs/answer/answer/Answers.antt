use Rattle.std.proofs.Common.{◌≡◌, Err, length, refl, sym, subst, rules}
use Rattle.clauses.specs.Says.{SolvedPost}
use Rattle.solver.proofs.Solutions.{solved_read, refused}
use Rattle.solver.proofs.answer.answer.Goals as goal

pub returns-in_err-formula : goal.returns-in_err-formula
returns-in_err-formula c =
    let e : c.from_residual.result ≡ Err c.in_err-formula.field-0.0 = search rules in
    subst (SolvedPost c.args.clauses.now (length c.args.work.now) c.args.model.now c.args.model.now) (sym e)
    (refused _ _ _ _ c.if-not-enough_room.ensures _ c.in_err-formula.ensures refl)

pub returns-then-clauses-lt-MOST_NUMBERS : goal.returns-then-clauses-lt-MOST_NUMBERS
returns-then-clauses-lt-MOST_NUMBERS c =
    let f = c.in_ok-formula.formula in
    solved_read _ _ _ _ c.if-not-enough_room.ensures c.find_counted.result _ _ c.in_ok-formula.ensures.0 c.in_ok-formula.ensures.1 f.well f.within c.find_counted.auto.model c.find_counted.ensures

pub returns-else-clauses-lt-MOST_NUMBERS : goal.returns-else-clauses-lt-MOST_NUMBERS
returns-else-clauses-lt-MOST_NUMBERS c =
    let f = c.in_ok-formula.formula in
    solved_read _ _ _ _ c.if-not-enough_room.ensures c.solve_plain.result _ _ c.in_ok-formula.ensures.0 c.in_ok-formula.ensures.1 f.well f.within c.solve_plain.auto.model c.solve_plain.ensures
