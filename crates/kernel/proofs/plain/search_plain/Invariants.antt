use Rattle.std.proofs.Common.{◌≡◌, ◌-◌, ◌^◌, length}
use Rattle.kernel.specs.Trail.{rank_of}
use Rattle.kernel.proofs.plain.search_plain.Given as goal

abbrev pub invariant-turns : goal.invariant-turns
invariant-turns l = (l.trail.clauses ≡ l.initial.trail.clauses) × (length l.trail.values ≡ length l.initial.trail.values)

abbrev pub decreases-turns : goal.decreases-turns
decreases-turns l = 3 ^ length l.trail.values - rank_of l.trail
