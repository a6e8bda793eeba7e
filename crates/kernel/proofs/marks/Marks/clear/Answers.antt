use Rattle.std.proofs.Common.{◌≡◌, ℕ, ◌<◌, List, length, get_or, subst, arith, rules}
use Rattle.kernel.specs.Resolve.{Counts}
use Rattle.kernel.proofs.Marking.{none_counted, counted_none}
use Rattle.kernel.proofs.marks.Marks.clear.Goals as goal

pub invariant_of-self : goal.invariant_of-self
invariant_of-self c = none_counted _ (λ k l. search rules)

pub returns-else-self-gt0-clause-clean : goal.returns-else-self-gt0-clause-clean
returns-else-self-gt0-clause-clean c =
    let none = subst (Counts c.self.inside.seen.now) (omega arith) c.self.invariant in
    subst (λ (seen : List ℕ). (k : ℕ) → k < length seen → get_or seen k 0 ≡ 0) c.self.view_is (counted_none _ none)
