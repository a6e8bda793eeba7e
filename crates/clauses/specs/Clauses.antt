-- Clauses, what it is to meet them, and their writing as numbers.
use Rattle.std.specs.Prelude.{◌≡◌, ℕ, ◌+◌, ◌*◌, ◌<◌, Bool, true, false, cond, not, ◌⊎◌, List, [], ◌∷◌, ◌++◌, ◌==◌}

-- a literal is a variable with its sign; a clause is met if one of its literals is true
pub record Lit : Type 0 where
  pub var : ℕ
  pub pos : Bool

abbrev pub signed : Bool → Bool → Bool
signed true b = b
signed false b = not b

abbrev pub truth : (ℕ → Bool) → Lit → Bool
truth s l = signed l.pos (s l.var)

abbrev pub Some : (ℕ → Bool) → List Lit → Type 0
Some s [] = ⊥
Some s (l ∷ ls) = (truth s l ≡ true) ⊎ Some s ls

abbrev pub Every : (ℕ → Bool) → List (List Lit) → Type 0
Every s [] = Unit {0}
Every s (c ∷ cs) = Some s c × Every s cs

abbrev pub Unmet : List (List Lit) → Type 0
Unmet cs = (s : ℕ → Bool) → Every s cs → ⊥

-- as numbers: 2 v + 2 is variable v, 2 v + 3 its negation, and a 0 comes after each clause
abbrev pub flat : List Lit → List ℕ
flat [] = 0 ∷ []
flat (l ∷ ls) = cond l.pos (2 * l.var + 2) (2 * l.var + 3) ∷ flat ls

abbrev pub flats : List (List Lit) → List ℕ
flats [] = []
flats (c ∷ cs) = flat c ++ flats cs

-- how often a variable stands in a clause, and in clauses
abbrev pub named_in1 : ℕ → List Lit → ℕ
named_in1 i [] = 0
named_in1 i (l ∷ ls) = cond (i == l.var) 1 0 + named_in1 i ls

abbrev pub named_in : ℕ → List (List Lit) → ℕ
named_in i [] = 0
named_in i (c ∷ cs) = named_in1 i c + named_in i cs

-- all variables are below n
abbrev pub Vars : ℕ → List Lit → Type 0
Vars n [] = Unit {0}
Vars n (l ∷ ls) = (l.var < n) × Vars n ls

abbrev pub AllVars : ℕ → List (List Lit) → Type 0
AllVars n [] = Unit {0}
AllVars n (c ∷ cs) = Vars n c × AllVars n cs
