use Rattle.std.proofs.Common.{◌≡◌, ◌+◌, ◌-◌, ◌∙◌, take, drop, ap, sym, subst, arith, rules}
use Rattle.kernel.specs.Arena.{Stored, Header, Follows, size}
use Rattle.kernel.proofs.Arenas.{part_length, part_follows}
use Rattle.kernel.proofs.arena.Arena.clause.Goals as goal

pub overflow_add-end : goal.overflow_add-end
overflow_add-end c =
    let header = subst (λ (a : Stored). Header a.words c.args.c) (sym c.self.view_is) c.if-not-is_header.ensures in
    let below = header.below in
    search rules

pub overflow_add-end-2 : goal.overflow_add-end-2
overflow_add-end-2 c =
    let header = subst (λ (a : Stored). Header a.words c.args.c) (sym c.self.view_is) c.if-not-is_header.ensures in
    let within = (c.self.invariant.headed c.args.c header.below header.high).within in
    let long : c.clause_length.result ≡ size c.self.inside.words.now c.args.c = c.clause_length.ensures ∙ ap (λ (a : Stored). size a.words c.args.c) (sym c.self.view_is) in
    search rules

pub returns : goal.returns
returns c =
    let header = subst (λ (a : Stored). Header a.words c.args.c) (sym c.self.view_is) c.if-not-is_header.ensures in
    let long : c.args.c + 1 + c.clause_length.result - (c.args.c + 1) ≡ size c.self.inside.words.now c.args.c = omega (arith, c.clause_length.ensures ∙ ap (λ (a : Stored). size a.words c.args.c) (sym c.self.view_is)) in (
      c.if-not-is_header.ensures,
      part_length _ _ _ _ _ _ _ c.self.invariant header long ∙ long ∙ ap (λ (a : Stored). size a.words c.args.c) c.self.view_is,
      subst (λ (a : Stored). Follows a.clauses a.variables (take (c.args.c + 1 + c.clause_length.result - (c.args.c + 1)) (drop (c.args.c + 1) c.self.inside.words.now))) c.self.view_is (part_follows _ _ _ _ _ _ _ c.self.invariant header long),
    )
