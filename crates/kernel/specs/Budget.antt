-- What is left to do for a solver that may start over a given number of times.
use Rattle.std.specs.Prelude.{ℕ, ◌+◌, ◌-◌, ◌*◌, ◌^◌, length}
use Rattle.kernel.specs.Trail.{Trailed, rank_of}

-- b times the whole way, and the rest of this one
abbrev pub left : Trailed → ℕ → ℕ
left t b = b * 3 ^ length t.values + (3 ^ length t.values - rank_of t)
