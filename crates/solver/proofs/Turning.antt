-- What a turn of the search comes to, from what its steps promise.
use Rattle.std.proofs.Common.{◌≡◌, ℕ, ◌-◌, ◌<◌, None, length}
use Rattle.kernel.specs.Trail.{Trailed, Further}
use Rattle.kernel.proofs.Budgets.{left_further, left_over}
use Rattle.solver.specs.Steps.{Turned}

-- a step on
pub turned_further : (t t' : Trailed) (b : ℕ) → Further t t' → Turned t b t' b None
turned_further t t' b f = record { clauses = f.clauses; long = f.long; turn = left_further t t' b f }

-- any trail, for one of the budget
pub turned_over : (t t' : Trailed) (b b' : ℕ) → t'.clauses ≡ t.clauses → length t'.values ≡ length t.values → 0 < b → b' ≡ b - 1 → Turned t b t' b' None
turned_over t t' b b' c l some e = record { clauses = c; long = l; turn = rw e (left_over t t' b l some) }
