-- The conditions of use, as tests of a rule's measures.
use Rattle.std.specs.Prelude.{◌≡◌, ◌<◌, ◌≤◌, bit_or}
use Rattle.terms.specs.declared.measure.RuleMeasure.{RuleMeasure}
use Rattle.terms.specs.Terms.{limit}
use Rattle.terms.specs.Measures.{together}

-- what a set is not made larger by is a part of it
pub record Accepted (m : RuleMeasure) : Type 0 where
  pub saves : m.to.operations < m.from.operations
  pub any_found : bit_or m.from.anys m.to.anys ≡ m.from.anys
  pub con_found : bit_or m.from.cons (bit_or m.to.cons m.needs.cons) ≡ m.from.cons
  pub needs_con : m.needs.anys ≡ 0
  pub light : (together m.needs (together m.from m.to)).load ≤ limit
