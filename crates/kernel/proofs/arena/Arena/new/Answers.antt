use Rattle.std.proofs.Common.{◌-◌, take, drop, sym, ◌∙◌, refl, subst, arith, length-drop}
use Rattle.std.proofs.lemmas.List.{length-take-le}
use Rattle.kernel.specs.Arena.{Follows}
use Rattle.kernel.proofs.Loading.{loaded_none, loaded_more, loaded_next, reading_clause}
use Rattle.kernel.proofs.arena.Arena.new.Goals as goal
use Rattle.kernel.proofs.arena.Arena.new.Goals.{then-x-eq0, else-x-eq0}

pub loop-i-init : goal.loop-i-init
loop-i-init c = loaded_none _ _ _ _ c.empty-arena.ensures.clauses c.empty-arena.ensures.variables refl c.empty-arena.ensures.low (c.empty-arena.ensures.high ∙ sym c.empty-arena.ensures.long)

pub store-requires-clause-clause : goal.store-requires-clause-clause
store-requires-clause-clause c =
    let so_far = c.loop-i.invariant in
    let part = take (c.loop-i.i - c.loop-i.start) (drop c.loop-i.start c.args.clauses.now) in
    let clause : Follows c.args.clauses.now c.args.variables (take (c.loop-i.i - c.loop-i.start) (drop c.loop-i.start c.args.clauses.now)) =
    reading_clause _ _ _ c.loop-i-test.true so_far.reading c.args.variables _ c.if-x-eq0.true c.requires.well c.requires.within c.requires.small refl in
    subst (λ ws. Follows ws c.loop-i.arena.variables (take (c.loop-i.i - c.loop-i.start) (drop c.loop-i.start c.args.clauses.now))) (sym so_far.clauses)
    (subst (λ m. Follows c.args.clauses.now m (take (c.loop-i.i - c.loop-i.start) (drop c.loop-i.start c.args.clauses.now))) (sym so_far.variables) clause)

pub loop-i-preserved : goal.loop-i-preserved
loop-i-preserved c =
    let within = c.loop-i.invariant.reading.within in
    let part = length-take-le (c.loop-i.i - c.loop-i.start) (drop c.loop-i.start c.args.clauses.now) (omega (arith, length-drop c.loop-i.start c.args.clauses.now)) in
    elim c.if-x-eq0.branch [
      | then-x-eq0 w ↦ loaded_next _ _ _ _ _ _ c.loop-i-test.true c.loop-i.invariant _ _ _ _ w.arena-is w.start-is w.if-x-eq0.true part w.store.ensures.clauses w.store.ensures.variables w.store.ensures.long w.store.ensures.low w.store.ensures.high
      | else-x-eq0 w ↦ loaded_more _ _ _ _ _ _ c.loop-i-test.true c.loop-i.invariant _ _ w.arena-is w.start-is w.if-x-eq0.false
    ]
