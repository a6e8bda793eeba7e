use Rattle.std.proofs.Common.{◌≡◌, ℕ, ◌/◌, ◌<◌, ◌≤◌, get_or}
use Rattle.kernel.proofs.trail.Trail.free_literal.Given as goal

abbrev pub invariant-loop-code : goal.invariant-loop-code
invariant-loop-code l = (k : ℕ) → k < l.code-index → 2 ≤ get_or l.self-inside.clauses.now k 0 → get_or l.self-inside.values.now (get_or l.self-inside.clauses.now k 0 / 2) 0 ≡ 0 → ⊥
