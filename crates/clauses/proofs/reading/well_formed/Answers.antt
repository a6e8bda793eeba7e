use Rattle.std.proofs.Common.{not, false, MatchBool, sym, subst, rules}
use Rattle.clauses.specs.Flat.{Well}
use Rattle.clauses.proofs.Forms.{well_by_last, well_apart}
use Rattle.clauses.proofs.reading.well_formed.Goals as goal

pub returns-then-not-contains : goal.returns-then-not-contains
returns-then-not-contains c = well_by_last _ _ (λ k l. search rules) c.is_closed.ensures.some c.is_closed.ensures.none

pub returns-else-not-contains : goal.returns-else-not-contains
returns-else-not-contains c =
    let one = c.if-not-contains.ensures in
    subst (λ b. MatchBool (not b) (Well false c.args.clauses.now) (Well false c.args.clauses.now → ⊥)) (sym c.if-not-contains.false)
    (λ h. well_apart false _ h one.cases.0 one.cases.1 (search rules))
