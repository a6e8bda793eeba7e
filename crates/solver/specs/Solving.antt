-- What a search for a model of clauses says, with what it wrote.
use Rattle.std.specs.Prelude.{◌≡◌, ℕ, Bool, List, length}
use Rattle.clauses.specs.declared.solved.Answer.{Answer}
use Rattle.clauses.specs.declared.solved.Answer.TheVariants.{Met, Never}
use Rattle.clauses.specs.Flat.{Hopeless, Model}
use Rattle.clauses.specs.Models.{written_sign, Written}

-- the signs of a model of ws are written to m', as gives says, from the values of the variables' inside numbers
pub record Answers {A : Type 0} (gives : Bool → A → Type 0) (ws : List ℕ) (m m' : List A) : Type 0 where
  pub map : List ℕ
  pub values : List ℕ
  pub model : Model (written_sign map values) ws
  pub written : Written gives ws map values m m' (length ws)

-- no assignment meets ws, and the model is as it was
pub record Refuses {A : Type 0} (ws : List ℕ) (m m' : List A) : Type 0 where
  pub hopeless : Hopeless ws
  pub same : m' ≡ m

abbrev pub Solves : {A : Type 0} → (Bool → A → Type 0) → List ℕ → List A → List A → Answer → Type 0
Solves gives ws m m' Met = Answers gives ws m m'
Solves gives ws m m' Never = Refuses ws m m'
