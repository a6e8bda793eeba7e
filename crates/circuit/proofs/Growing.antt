-- Nets only grow, so what has room for a whole net has room for each net on the way to it.
use Rattle.std.proofs.Common.{ℕ, ◌≤◌, List, [], ◌∷◌, length, arith, length-append}
use Rattle.clauses.specs.declared.literal.Literal.{Literal}
use Rattle.circuit.specs.Nets.{Net, clause, said, said_all, taken}
use Rattle.circuit.specs.Parts.{appended}

-- m has at least the numbers and the variables of n
pub record Grows (n m : Net) : Type 0 where
  pub variables : n.next ≤ m.next
  pub numbers : length n.out ≤ length m.out

pub grows_same : (n : Net) → Grows n n
grows_same n = record { variables = omega arith; numbers = omega arith }

pub grows_then : {n m k : Net} → Grows n m → Grows m k → Grows n k
grows_then g h = record { variables = omega arith; numbers = omega arith }

pub appended_grows : (xs : List ℕ) (n : Net) → Grows n (appended xs n)
appended_grows xs n = record { variables = omega arith; numbers = omega (arith, length-append n.out xs) }

pub said_grows : (c : List Literal) (n : Net) → Grows n (said c n)
said_grows c n = appended_grows (clause c) n

pub taken_grows : (n : Net) → Grows n (taken n)
taken_grows n = record { variables = omega arith; numbers = omega arith }

pub said_all_grows : (cs : List (List Literal)) (n : Net) → Grows n (said_all cs n)
said_all_grows [] n = grows_same n
said_all_grows (c ∷ cs) n = grows_then (said_grows c n) (said_all_grows cs (said c n))
