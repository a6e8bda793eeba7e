-- How many variables are marked.
use Rattle.std.proofs.Common.{◌≡◌, ℕ, ◌<◌, ◌≤◌, Bool, true, false, List, length, get_or, arith}
use Rattle.std.specs.Int.{from_bool}
use Rattle.kernel.specs.Resolve.{Counts}
use Rattle.kernel.proofs.Zeros.{zeros_all, zeros_full}

-- the marks of so many of the variables that have these values
pub record Marked (values seen : List ℕ) (marks : ℕ) : Type 0 where
  pub long : length seen ≡ length values
  pub counted : Counts seen marks

-- nothing is marked
pub none_counted : (seen : List ℕ) → ((k : ℕ) → k < length seen → get_or seen k 0 ≡ 0) → Counts seen 0
none_counted seen clean = omega (arith, zeros_all seen clean)

pub from_bool_one : (b : Bool) → from_bool b ≤ 1
from_bool_one true = omega arith
from_bool_one false = omega arith

pub counted_none : (seen : List ℕ) → Counts seen 0 → (k : ℕ) → k < length seen → get_or seen k 0 ≡ 0
counted_none seen h = zeros_full seen (omega arith)
