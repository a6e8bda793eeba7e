use Rattle.std.proofs.Common.{◌≡◌, ℕ, ◌<◌, length, get_or}
use Rattle.words.specs.Words.{bits}
use Rattle.terms.specs.Terms.{Term}
use Rattle.terms.specs.Nodes.{Stands}
use Rattle.terms.specs.Measures.{measure_of, nothing}
use Rattle.terms.proofs.measure.node_measures.Given as goal

abbrev pub invariant-loop-i : goal.invariant-loop-i
invariant-loop-i l = record {
  long : length l.all ≡ 102;
  measures : (j : ℕ) (e : Term) → j < l.i → Stands l.nodes j e → get_or l.all j nothing ≡ measure_of (bits l.rule.width) e;
}
