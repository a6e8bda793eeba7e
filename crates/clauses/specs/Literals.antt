-- Literals by their codes.
use Rattle.std.specs.Prelude.{◌+◌, ◌-◌, ◌%◌, cond, ◌==◌}
use Rattle.clauses.specs.declared.literal.Literal.{Literal}

-- the other literal of the same variable
abbrev pub negated : Literal → Literal
negated l = record { 0 = cond (l.0 % 2 == 0) (l.0 + 1) (l.0 - 1) }
