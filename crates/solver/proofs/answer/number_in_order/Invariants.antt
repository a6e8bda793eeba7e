use Rattle.std.proofs.Common.{◌≡◌, ℕ, ◌+◌, ◌^◌, ◌<◌, ◌≤◌, get_or}
use Rattle.solver.proofs.answer.number_in_order.Given as goal

abbrev pub invariant-loop-v : goal.invariant-loop-v
invariant-loop-v l = ((k : ℕ) → k < l.v → k < 2 ^ 31 → get_or l.map k 0 ≡ k + 1) × ((k : ℕ) → k < l.v → get_or l.map k 0 ≤ k + 1)
