-- How much larger a circuit makes a net.
use Rattle.std.specs.Prelude.{ℕ, ◌+◌, ◌≤◌, length}
use Rattle.circuit.specs.Nets.{Net}

-- by at most so many numbers and so many variables
pub record Grows (n m : Net) (numbers variables : ℕ) : Type 0 where
  pub written : length m.out ≤ length n.out + numbers
  pub made : m.next ≤ n.next + variables
