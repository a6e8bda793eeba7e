use Rattle.kernel.proofs.Swapping.{exchanged}
use Rattle.kernel.proofs.arena.swap_literals.Goals as goal

pub returns-clause-arena : goal.returns-clause-arena
returns-clause-arena c =
    let swapped = c.swap.ensures.by_index in
    exchanged _ _ c.swap.new.self _ _ _ _ _ _ c.requires.arena c.requires.header c.requires.p.0 c.requires.p.1 c.requires.q.0 c.requires.q.1 (swapped.0 0) (swapped.1 0) (λ j. swapped.2 j 0) c.swap.ensures.len
