use Rattle.std.proofs.Common.{arith}
use Rattle.words.specs.declared.UnaryOp.TheVariants.{Not, Neg}
use Rattle.words.specs.declared.BinaryOp.TheVariants.{Add, Sub, Mul, Udiv, Urem, And, Or, Xor, Shl, Lshr, Ashr, Comp, Ult, Slt}
use Rattle.book.specs.declared.token.Operation.TheVariants.{Unary, Binary, Ite}
use Rattle.book.proofs.token.Operation.from_name.Goals as goal

-- each operation stands in the table
pub returns : goal.returns
returns c (Binary Add) = c.loop-op.invariant 0 (omega arith)
returns c (Binary Sub) = c.loop-op.invariant 1 (omega arith)
returns c (Binary Mul) = c.loop-op.invariant 2 (omega arith)
returns c (Binary Udiv) = c.loop-op.invariant 3 (omega arith)
returns c (Binary Urem) = c.loop-op.invariant 4 (omega arith)
returns c (Binary And) = c.loop-op.invariant 5 (omega arith)
returns c (Binary Or) = c.loop-op.invariant 6 (omega arith)
returns c (Binary Xor) = c.loop-op.invariant 7 (omega arith)
returns c (Binary Shl) = c.loop-op.invariant 8 (omega arith)
returns c (Binary Lshr) = c.loop-op.invariant 9 (omega arith)
returns c (Binary Ashr) = c.loop-op.invariant 10 (omega arith)
returns c (Binary Comp) = c.loop-op.invariant 11 (omega arith)
returns c (Binary Ult) = c.loop-op.invariant 12 (omega arith)
returns c (Binary Slt) = c.loop-op.invariant 13 (omega arith)
returns c (Unary Not) = c.loop-op.invariant 14 (omega arith)
returns c (Unary Neg) = c.loop-op.invariant 15 (omega arith)
returns c Ite = c.loop-op.invariant 16 (omega arith)
