-- When a rule may be used to rewrite a listing, whether or not it holds.
use Rattle.std.specs.Prelude.{◌≡◌, ℕ, ◌+◌, ◌<◌, ◌≤◌, List, [], ◌∷◌}
use Rattle.terms.specs.Terms.{Term, Rule, ops, anys, cons, weight, limit}

abbrev pub sum_of : (Term → ℕ) → List Term → ℕ
sum_of f [] = 0
sum_of f (e ∷ es) = f e + sum_of f es

-- A use saves operations, and every name of the second side and of the needed terms is bound by the
-- first side. What is needed speaks of constants alone, so that it is known where the rule is used.
pub record Usable (r : Rule) : Type 0 where
  pub saves : ops r.to < ops r.from
  pub any_found : (i : ℕ) → anys i r.from ≡ 0 → anys i r.to ≡ 0
  pub con_found : (i : ℕ) → cons i r.from ≡ 0 → cons i r.to + sum_of (cons i) r.needs ≡ 0
  pub needs_con : (i : ℕ) → sum_of (anys i) r.needs ≡ 0
  pub light : weight r ≤ limit
