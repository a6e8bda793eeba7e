use Rattle.std.proofs.Common.{◌≢◌, ℕ, ◌<◌, get_or}
use Rattle.book.specs.declared.token.Operation.TheVariants.{Binary}
use Rattle.words.specs.declared.BinaryOp.TheVariants.{Add}
use Rattle.book.specs.Tokens.{operation_name}
use Rattle.book.proofs.token.Operation.from_name.Given as goal

abbrev pub invariant-loop-op : goal.invariant-loop-op
invariant-loop-op l = (k : ℕ) → k < l.op-index → l.word ≢ operation_name (get_or l.op-items k (Binary Add))
