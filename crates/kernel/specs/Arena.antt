-- The clauses at hand, given and learned, in one array of words: a word of 2 ^ 31 or more is a header,
-- its low bits the number of literals, which follow it.
use Rattle.std.specs.Prelude.{◌≡◌, ℕ, ◌+◌, ◌-◌, ◌/◌, ◌<◌, ◌≤◌, Bool, true, ◌⊎◌, List, length, slice_index}
use Rattle.clauses.specs.Flat.{lit_truth, Model}

-- the least header
abbrev pub head : ℕ
head = 2147483648

-- how many literals the header at i says
abbrev pub size : List ℕ → ℕ → ℕ
size arena i = slice_index arena i - head

-- a literal of a variable below m
pub record Word (m x : ℕ) : Type 0 where
  pub lit : 2 ≤ x
  pub half : x / 2 < m
  pub low : x < head

-- one of n literals from i on is true
pub record Has (s : ℕ → Bool) (arena : List ℕ) (i n : ℕ) : Type 0 where
  pub at : ℕ
  pub below : at < n
  pub holds : lit_truth s (slice_index arena (i + at)) ≡ true

-- n words from i on are literals of a clause that follows from ws
pub record Clause (ws arena : List ℕ) (m i n : ℕ) : Type 0 where
  pub words : (k : ℕ) → k < n → Word m (slice_index arena (i + k))
  pub follows : (s : ℕ → Bool) → Model s ws → Has s arena i n

-- the clause after the header at i, which ends below low or begins at high or after it
pub record Headed (ws arena : List ℕ) (m low high i : ℕ) : Type 0 where
  pub within : i + size arena i < length arena
  pub apart : (i + size arena i < low) ⊎ (high ≤ i)
  pub clause : Clause ws arena m (i + 1) (size arena i)

-- each header has its clause, and no header stands from low on below high: the gap
pub record IsArena (ws arena : List ℕ) (m low high : ℕ) : Type 0 where
  pub order : low ≤ high
  pub fits : high ≤ length arena
  pub headed : (i : ℕ) → i < length arena → head ≤ slice_index arena i → Headed ws arena m low high i

-- the words are those that were, with the first k of src over those from a on
pub record Overwritten (was words src : List ℕ) (a k : ℕ) : Type 0 where
  pub put : (j : ℕ) → j < k → slice_index words (a + j) ≡ slice_index src j
  pub below : (p : ℕ) → p < a → slice_index words p ≡ slice_index was p
  pub above : (p : ℕ) → a + k ≤ p → slice_index words p ≡ slice_index was p

-- a clause's header stands at c
pub record Header (arena : List ℕ) (c : ℕ) : Type 0 where
  pub below : c < length arena
  pub high : head ≤ slice_index arena c

-- what an arena shows: the given clauses, how many variables there are, the words, and where the gap begins and ends
pub record Stored : Type 0 where
  pub clauses : List ℕ
  pub words : List ℕ
  pub variables : ℕ
  pub low : ℕ
  pub high : ℕ

-- the literals are a clause that follows
abbrev pub Follows : List ℕ → ℕ → List ℕ → Type 0
Follows ws m lits = Clause ws lits m 0 (length lits)
