-- A net: clauses that are written one after the other, and the next variable that none of them has.
use Rattle.std.specs.Prelude.{ℕ, zero, suc, ◌+◌, ◌*◌, Bool, List, [], ◌∷◌, ◌++◌, ◌==◌}
use Rattle.clauses.specs.declared.literal.Literal.{Literal}

-- the clauses as numbers: a literal by its code, 2 v + 2 for variable v and 2 v + 3 for its negation, and a 0 after each clause
pub record Net : Type 0 where
  pub next : ℕ
  pub out : List ℕ

-- the literals of variable 0, which each net makes true
abbrev pub high : Literal
high = record { 0 = 2 }

abbrev pub low : Literal
low = record { 0 = 3 }

abbrev pub same : Literal → Literal → Bool
same a b = a.0 == b.0

abbrev pub clause : List Literal → List ℕ
clause [] = 0 ∷ []
clause (l ∷ ls) = l.0 ∷ clause ls

-- one more clause, and several
abbrev pub said : List Literal → Net → Net
said c n = record { next = n.next; out = n.out ++ clause c }

abbrev pub said_all : List (List Literal) → Net → Net
said_all [] n = n
said_all (c ∷ cs) n = said_all cs (said c n)

-- the literal of the next variable, and the net that has it
abbrev pub fresh : Net → Literal
fresh n = record { 0 = 2 * n.next + 2 }

abbrev pub taken : Net → Net
taken n = record { next = suc n.next; out = n.out }

-- the literals of w variables from v on
abbrev pub wires : ℕ → ℕ → List Literal
wires zero v = []
wires (suc w) v = record { 0 = 2 * v + 2 } ∷ wires w (suc v)

-- w new variables that no clause is about yet
abbrev pub free : ℕ → Net → Net
free w n = record { next = n.next + w; out = n.out }
