-- The limits that a rule of a book keeps.
use Rattle.std.specs.Prelude.{ℕ, ◌^◌, Bool, true, ◌&&◌, List, [], ◌∷◌, length, nat_le, nat_lt}
use Rattle.words.specs.Words.{bits}
use Rattle.terms.specs.Terms.{Term, any, con, lit, unary, binary, ite, Rule, terms, ops_all}

-- names are below 16, and literals are words of w bits
abbrev pub ok_term : ℕ → Term → Bool
ok_term w (any i) = nat_lt i 16
ok_term w (con i) = nat_lt i 16
ok_term w (lit n) = nat_lt n (2 ^ w)
ok_term w (unary o x) = ok_term w x
ok_term w (binary o x y) = ok_term w x && ok_term w y
ok_term w (ite t x y) = ok_term w t && (ok_term w x && ok_term w y)

abbrev pub ok_terms : ℕ → List Term → Bool
ok_terms w [] = true
ok_terms w (e ∷ es) = ok_term w e && ok_terms w es

-- at most four needed terms, and at most 32 operations in all of a rule
abbrev pub ok_rule : Rule → Bool
ok_rule r = nat_le (length r.needs) 4 && (nat_le (ops_all (terms r)) 32 && ok_terms (bits r.width) (terms r))
