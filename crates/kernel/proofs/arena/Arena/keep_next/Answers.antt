use Rattle.std.proofs.Common.{◌≡◌, ◌+◌, ◌-◌, ◌∙◌, get_or, set, ap, sym, subst, arith, length-set, get_or-set_same}
use Rattle.kernel.specs.Arena.{Stored, Clause, Header, size}
use Rattle.kernel.proofs.Arenas.{dropped_as}
use Rattle.kernel.proofs.Storing.{moved_to, dropped_clause}
use Rattle.kernel.proofs.arena.Arena.keep_next.Goals as goal

pub invariant_of-self : goal.invariant_of-self
invariant_of-self c =
    let header = subst (λ (a : Stored). Header a.words a.high) (sym c.self.view_is) c.requires in
    let long : c.clause_length.result ≡ size c.self.inside.words.now c.self.inside.high = c.clause_length.ensures ∙ ap (λ (a : Stored). size a.words c.self.inside.high) (sym c.self.view_is) in
    let ar = dropped_as _ _ _ _ _ _ c.self.invariant header long in
    let clause = subst (Clause c.self.inside.clauses.now (set c.self.inside.words.now c.self.inside.high 0) c.self.inside.variables (c.self.inside.high + 1)) (sym long) (dropped_clause _ _ _ _ _ c.self.invariant header) in
    let copied = c.copy_within.ensures.by_index in
    let same : c.self.inside.high + 1 + c.clause_length.result - (c.self.inside.high + 1) ≡ c.clause_length.result = omega arith in
    moved_to _ _ c.copy_within.new.self _ _ _ _ ar c.self.invariant.order clause (λ k d a b. copied.0 k d a (omega arith)) copied.1 (λ k d a. copied.2 k d (omega arith)) c.copy_within.ensures.len _ _ (omega (arith, header.high)) (omega arith)

pub returns-clause-header : goal.returns-clause-header
returns-clause-header c =
    let header = subst (λ (a : Stored). Header a.words a.high) (sym c.self.view_is) c.requires in
    let order = c.self.invariant.order in
    let below = header.below in
    let long = c.copy_within.ensures.len ∙ length-set c.self.inside.words.now c.self.inside.high 0 in
    subst (λ (a : Stored). get_or (set c.copy_within.new.self c.self.inside.low (get_or c.self.inside.words.now c.self.inside.high 0)) a.low 0 ≡ get_or a.words a.high 0) c.self.view_is
    (get_or-set_same c.copy_within.new.self c.self.inside.low (get_or c.self.inside.words.now c.self.inside.high 0) 0 (omega arith))
