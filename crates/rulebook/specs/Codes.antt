-- The answers as numbers, for callers in other languages.
use Rattle.std.specs.Prelude.{◌≡◌, List, ℕ, Ok, Err}
use Rattle.clauses.specs.declared.solved.Answer.TheVariants.{Met, Never}
use Rattle.clauses.specs.declared.solved.Refusal.TheVariants.{NoClauses, Small}
use Rattle.clauses.specs.Says.{Solved, SolvedPost}

abbrev pub code : Solved → ℕ
code (Ok Met) = 0
code (Ok Never) = 1
code (Err NoClauses) = 2
code (Err Small) = 3

-- the number is that of an answer that keeps the solver's promise
pub record Answered (s : List ℕ) (w : ℕ) (m m' : List ℕ) (r : ℕ) : Type 0 where
  pub solved : Solved
  pub coded : r ≡ code solved
  pub promise : SolvedPost s w m m' solved
