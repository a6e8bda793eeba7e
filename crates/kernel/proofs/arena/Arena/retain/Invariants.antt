use Rattle.std.proofs.Common.{◌≡◌, ◌-◌, length}
use Rattle.kernel.proofs.arena.Arena.retain.Given as goal

abbrev pub invariant-loop-self : goal.invariant-loop-self
invariant-loop-self g l =
    goal.F-IsAlwaysCallable g l.keep
    × (l.self.clauses ≡ l.initial.self.clauses) × (l.self.variables ≡ l.initial.self.variables) × (length l.self.words ≡ length l.initial.self.words)

abbrev pub decreases-loop-self : goal.decreases-loop-self
decreases-loop-self g l = length l.self.words - l.self.high
