-- What a turn of the search comes to.
use Rattle.std.specs.Prelude.{◌≡◌, ℕ, ◌<◌, length, Option, MatchOption}
use Rattle.clauses.specs.declared.solved.Answer.{Answer}
use Rattle.kernel.specs.Budget.{left}
use Rattle.kernel.specs.Scan.{Found}
use Rattle.kernel.specs.Trail.{Trailed}

-- from t with a budget of b to t' with b': an answer is found, or what is left to do has fallen
pub record Turned (t : Trailed) (b : ℕ) (t' : Trailed) (b' : ℕ) (r : Option Answer) : Type 0 where
  pub clauses : t'.clauses ≡ t.clauses
  pub long : length t'.values ≡ length t.values
  pub turn : MatchOption r (left t' b' < left t b) (Found t')
