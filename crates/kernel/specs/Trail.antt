-- The trail: the literals that are set, in the order in which they were.
-- values holds at a variable's place the code of its literal that is true, or 0.
use Rattle.std.specs.Prelude.{◌≡◌, ℕ, zero, suc, ◌+◌, ◌*◌, ◌/◌, ◌^◌, ◌<◌, ◌≤◌, Bool, true, cond, List, [], ◌∷◌, length, ◌==◌, ◌≢◌, slice_index, slice_index_or}
use Rattle.clauses.specs.Flat.{lit_truth, Model, Within}

-- how many words are 0
abbrev pub zeros : List ℕ → ℕ
zeros [] = 0
zeros (x ∷ xs) = cond (x == 0) 1 0 + zeros xs

-- a literal that is set stands on the trail
pub record Placed (values trail : List ℕ) (n k : ℕ) : Type 0 where
  pub at : ℕ
  pub below : at < n
  pub is : slice_index_or trail at 0 ≡ slice_index values k
  pub half : slice_index_or values k 0 / 2 ≡ k

-- what stands on the trail is set
pub record Stands (values trail : List ℕ) (p : ℕ) : Type 0 where
  pub fits : slice_index_or trail p 0 / 2 < length values
  pub set : slice_index_or values (slice_index trail p / 2) 0 ≡ slice_index trail p
  pub lit : 2 ≤ slice_index trail p

-- the shape of a trail of n literals: each is set, whatever is set is one of them, and their variables differ
pub record IsTrail (values trail : List ℕ) (n : ℕ) : Type 0 where
  pub on : (p : ℕ) → p < n → Stands values trail p
  pub own : (k : ℕ) → k < length values → (slice_index values k ≢ 0) → Placed values trail n k
  pub apart : (p q : ℕ) → p < n → q < n → slice_index trail p / 2 ≡ slice_index trail q / 2 → p ≡ q
  pub counted : n + zeros values ≡ length values
  pub room : length values ≤ length trail

-- s makes the first p literals of the trail true
abbrev pub Holds : (ℕ → Bool) → List ℕ → ℕ → Type 0
Holds s trail p = (q : ℕ) → q < p → lit_truth s (slice_index trail q) ≡ true

-- x is true in each model in which the first p literals are
abbrev pub Entails : List ℕ → List ℕ → ℕ → ℕ → Type 0
Entails ws trail p x = (s : ℕ → Bool) → Model s ws → Holds s trail p → lit_truth s x ≡ true

-- the meaning of a trail: kinds has 0 for a decision, and a literal of any other kind follows from those before it
abbrev pub Sound : List ℕ → List ℕ → List ℕ → ℕ → Type 0
Sound ws trail kinds n = (p : ℕ) → p < n → (slice_index kinds p ≢ 0) → Entails ws trail p (slice_index trail p)

-- s makes each literal true that is set
abbrev pub Agrees : (ℕ → Bool) → List ℕ → Type 0
Agrees s values = (k : ℕ) → k < length values → (slice_index values k ≢ 0) → lit_truth s (slice_index values k) ≡ true

-- no model agrees with the values
abbrev pub Clash : List ℕ → List ℕ → Type 0
Clash ws values = (s : ℕ → Bool) → Agrees s values → Model s ws → ⊥

-- each value stands at its own place
abbrev pub Own : List ℕ → Type 0
Own values = (k : ℕ) → k < length values → (slice_index values k ≢ 0) → slice_index values k / 2 ≡ k

-- a literal whose variable is not set
pub record Free (values : List ℕ) (x : ℕ) : Type 0 where
  pub fits : x / 2 < length values
  pub free : slice_index_or values (x / 2) 0 ≡ 0
  pub lit : 2 ≤ x

-- a literal that is false
pub record False (values : List ℕ) (x : ℕ) : Type 0 where
  pub set : slice_index_or values (x / 2) 0 ≡ 0 → ⊥
  pub other : slice_index_or values (x / 2) 0 ≡ x → ⊥

-- x is free, and true in each model that agrees with the values
pub record Forced (ws values : List ℕ) (x : ℕ) : Type 0 where
  pub free : Free values x
  pub holds : (s : ℕ → Bool) → Agrees s values → Model s ws → lit_truth s x ≡ true

-- the trail as a number to the base 3, first literal first: 2 for an implied one, 1 for a decision, 0 for none
abbrev pub digit : ℕ → ℕ
digit k = cond (k == 0) 1 2

abbrev pub rank : ℕ → List ℕ → ℕ
rank zero ks = 0
rank (suc n) [] = 0
rank (suc n) (k ∷ ks) = digit k * 3 ^ n + rank n ks

-- the last decision stands at r
pub record IsLast (kinds : List ℕ) (r : ℕ) : Type 0 where
  pub within : r < length kinds
  pub here : slice_index kinds r ≡ 0
  pub after : (p : ℕ) → r < p → p < length kinds → slice_index kinds p ≢ 0

-- no decision stands at a place below r
pub record NoDecision (kinds : List ℕ) (r : ℕ) : Type 0 where
  pub within : r ≤ length kinds
  pub before : (p : ℕ) → p < r → slice_index kinds p ≢ 0

-- what a solver keeps
pub record State (ws vs ts ks : List ℕ) (n : ℕ) : Type 0 where
  pub trail : IsTrail vs ts n
  pub sound : Sound ws ts ks n
  pub within : Within ws (length vs)
  pub room : length vs ≤ length ks

-- what a trail shows: the clauses, for each variable the code of its literal that is true or 0, the literals that are set,
-- in their order, and of each 0 for a decision and another number for an implied one
pub record Trailed : Type 0 where
  pub clauses : List ℕ
  pub values : List ℕ
  pub literals : List ℕ
  pub kinds : List ℕ

abbrev pub rank_of : Trailed → ℕ
rank_of t = rank (length t.values) t.kinds

-- a step on: the trail's number grows
pub record Further (t t' : Trailed) : Type 0 where
  pub clauses : t'.clauses ≡ t.clauses
  pub long : length t'.values ≡ length t.values
  pub more : rank_of t < rank_of t'

-- any number of steps on
pub record Went (t t' : Trailed) : Type 0 where
  pub clauses : t'.clauses ≡ t.clauses
  pub long : length t'.values ≡ length t.values
  pub more : rank_of t ≤ rank_of t'

-- a literal that is set
pub record IsSet (values : List ℕ) (x : ℕ) : Type 0 where
  pub fits : x / 2 < length values
  pub set : slice_index values (x / 2) ≡ x
  pub lit : 2 ≤ x
