-- What a builder has written, and what it promises: the net of a circuit, exactly.
use Rattle.std.specs.Prelude.{◌≡◌, ℕ, ◌^◌, ◌≤◌, length}
use Rattle.circuit.specs.Nets.{Net}

-- a builder as its net, and how many numbers it has room for in all
pub record Written : Type 0 where
  pub net : Net
  pub room : ℕ

-- the builder has room for the clauses of net m, and numbers for its variables
pub record Fits (b : Written) (m : Net) : Type 0 where
  pub numbers : length m.out ≤ b.room
  pub variables : m.next ≤ 2 ^ 30

-- from b to b' the net m was written
pub record Wrote (b b' : Written) (m : Net) : Type 0 where
  pub net : b'.net ≡ m
  pub size : b'.room ≡ b.room
