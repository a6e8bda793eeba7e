use Rattle.std.proofs.Common.{◌≤◌, IfSome}
use Rattle.kernel.proofs.Looking.{Looked, code}
use Rattle.kernel.proofs.look.examine.Given as goal

-- the literals so far are false, or the one that may be there
abbrev pub invariant-loop-code : goal.invariant-loop-code
invariant-loop-code l = Looked l.values l.literals 0 l.code-index (code l.unit) × IfSome l.unit (λ x. 2 ≤ x.0)
