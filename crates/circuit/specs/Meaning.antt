-- What a net means: the assignments that meet its clauses, and the bits that its literals carry under them.
use Rattle.std.specs.Prelude.{◌≡◌, ℕ, ◌+◌, ◌*◌, ◌<◌, ◌≤◌, Bool, true, false, List, [], ◌∷◌, map, ◌≢◌}
use Rattle.clauses.specs.declared.literal.Literal.{Literal}
use Rattle.clauses.specs.Flat.{lit_truth, Model, Well}
use Rattle.circuit.specs.Nets.{Net}

abbrev pub truth_of : (ℕ → Bool) → Literal → Bool
truth_of s l = lit_truth s l.0

-- s and t are the same on the variables below n
abbrev pub Agree : ℕ → (ℕ → Bool) → (ℕ → Bool) → Type 0
Agree n s t = (v : ℕ) → v < n → s v ≡ t v

-- the code of a literal whose variable is below n
pub record Below (n : ℕ) (x : ℕ) : Type 0 where
  pub literal : 2 ≤ x
  pub variable : x < 2 * n + 2

-- each number is the end of a clause or a literal whose variable is below n
abbrev pub AllBelow : ℕ → List ℕ → Type 0
AllBelow n [] = Unit {0}
AllBelow n (x ∷ xs) = ((x ≢ 0) → Below n x) × AllBelow n xs

-- a net whose clauses are whole and whose variables lie below its next; variable 0 is true
pub record Whole (n : Net) : Type 0 where
  pub ends : Well false n.out
  pub below : AllBelow n.next n.out
  pub constant : (s : ℕ → Bool) → Model s n.out → s 0 ≡ true
  pub begun : 0 < n.next

-- m defines its new variables over n: each assignment that meets n extends to exactly one that meets m
pub record Defines (n m : Net) : Type 0 where
  pub grows : n.next ≤ m.next
  pub whole : Whole n → Whole m
  pub keeps : (s : ℕ → Bool) → Whole n → Model s m.out → Model s n.out
  pub extends : Whole n → (s : ℕ → Bool) → Model s n.out → (t : ℕ → Bool) × (Agree n.next s t) × Model t m.out
  pub unique : Whole n → (s t : ℕ → Bool) → Model s m.out → Model t m.out → Agree n.next s t → Agree m.next s t

-- a literal of a net that carries, under each assignment s that meets it, the bit f s
pub record Carries (n : Net) (l : Literal) (f : (ℕ → Bool) → Bool) : Type 0 where
  pub below : Below n.next l.0
  pub means : (s : ℕ → Bool) → Model s n.out → truth_of s l ≡ f s

-- a word of a net that carries the word f s
abbrev pub WordBelow : ℕ → List Literal → Type 0
WordBelow n [] = Unit {0}
WordBelow n (l ∷ ls) = Below n l.0 × WordBelow n ls

pub record Spells (n : Net) (ls : List Literal) (f : (ℕ → Bool) → List Bool) : Type 0 where
  pub below : WordBelow n.next ls
  pub means : (s : ℕ → Bool) → Model s n.out → map (truth_of s) ls ≡ f s

-- what a circuit makes over n: a net that defines its new variables, and in it a literal that carries f, a word that spells f, or two of these
pub record Makes (n : Net) (r : Net × Literal) (f : (ℕ → Bool) → Bool) : Type 0 where
  pub defines : Defines n r.0
  pub carries : Carries r.0 r.1 f

pub record MakesTwo (n : Net) (r : Net × (Literal × Literal)) (f g : (ℕ → Bool) → Bool) : Type 0 where
  pub defines : Defines n r.0
  pub first : Carries r.0 r.1.0 f
  pub second : Carries r.0 r.1.1 g

pub record MakesWord (n : Net) (r : Net × List Literal) (f : (ℕ → Bool) → List Bool) : Type 0 where
  pub defines : Defines n r.0
  pub spells : Spells r.0 r.1 f

pub record MakesBoth (n : Net) (r : Net × (List Literal × Literal)) (f : (ℕ → Bool) → List Bool) (g : (ℕ → Bool) → Bool) : Type 0 where
  pub defines : Defines n r.0
  pub spells : Spells r.0 r.1.0 f
  pub carries : Carries r.0 r.1.1 g

pub record MakesWords (n : Net) (r : Net × (List Literal × List Literal)) (f g : (ℕ → Bool) → List Bool) : Type 0 where
  pub defines : Defines n r.0
  pub first : Spells r.0 r.1.0 f
  pub second : Spells r.0 r.1.1 g
