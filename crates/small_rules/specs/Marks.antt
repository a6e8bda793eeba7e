-- Which names stand in the first nodes of a list.
use Rattle.std.specs.Prelude.{◌≡◌, ℕ, ◌<◌, Bool, true, List, length, nat_lt, slice_index_or, slice_set}
use Rattle.terms.specs.declared.node.Node.{Node}
use Rattle.terms.specs.declared.node.Node.TheVariants.{Any, Con, Lit, Unary, Binary, Ite}
use Rattle.small_rules.specs.Odometer.{Used}

-- each name of the n first nodes is marked as used
pub record Marked (ns : List Node) (n : ℕ) (anys cons : List Bool) : Type 0 where
  pub any_long : length anys ≡ 16
  pub con_long : length cons ≡ 16
  pub any_used : (i k : ℕ) → i < n → slice_index_or ns i (Any 0) ≡ Any k → (k < 16) × Used anys k
  pub con_used : (i k : ℕ) → i < n → slice_index_or ns i (Any 0) ≡ Con k → (k < 16) × Used cons k

-- a node's name, if it has one, is below 16
abbrev pub named : Node → Bool
named (Any k) = nat_lt k 16
named (Con k) = nat_lt k 16
named (Lit n) = true
named (Unary o j) = true
named (Binary o j k) = true
named (Ite h j k) = true

-- one node's name is marked too
abbrev pub mark_any : Node → List Bool → List Bool
mark_any (Any k) us = slice_set us k true
mark_any (Con k) us = us
mark_any (Lit n) us = us
mark_any (Unary o j) us = us
mark_any (Binary o j k) us = us
mark_any (Ite h j k) us = us

abbrev pub mark_con : Node → List Bool → List Bool
mark_con (Any k) us = us
mark_con (Con k) us = slice_set us k true
mark_con (Lit n) us = us
mark_con (Unary o j) us = us
mark_con (Binary o j k) us = us
mark_con (Ite h j k) us = us
