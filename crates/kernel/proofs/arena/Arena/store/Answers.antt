use Rattle.std.proofs.Common.{◌+◌, ◌≤◌, length, sym, subst, arith}
use Rattle.kernel.specs.Arena.{Stored, Follows}
use Rattle.kernel.proofs.Storing.{storing_put, stored}
use Rattle.kernel.proofs.arena.Arena.store.Goals as goal

pub invariant_of-self : goal.invariant_of-self
invariant_of-self c =
    let follows = subst (λ (a : Stored). Follows a.clauses a.variables c.args.literals.now) (sym c.self.view_is) c.requires.clause in
    let room = subst (λ (a : Stored). a.low + 1 + length c.args.literals.now ≤ a.high) (sym c.self.view_is) c.requires.room in
    stored _ _ _ c.args.literals.now _ _ _ 0 _ c.self.invariant follows room c.overwrite.ensures.long (storing_put _ _ _ _ _ _ _ c.self.invariant follows room c.overwrite.ensures.written)
