use Rattle.std.proofs.Common.{◌∙◌, ap, sym, subst}
use Rattle.kernel.specs.Arena.{Stored, Header, size}
use Rattle.kernel.proofs.Arenas.{dropped_as}
use Rattle.kernel.proofs.arena.Arena.drop_next.Goals as goal

pub invariant_of-self : goal.invariant_of-self
invariant_of-self c =
    let header = subst (λ (a : Stored). Header a.words a.high) (sym c.self.view_is) c.requires in
    let long = c.clause_length.ensures ∙ ap (λ (a : Stored). size a.words c.self.inside.high) (sym c.self.view_is) in
    dropped_as _ _ _ _ _ _ c.self.invariant header long
