use Rattle.std.proofs.Common.{◌≡◌, take}
use Rattle.words.specs.Words.{bits}
use Rattle.terms.specs.Terms.{Rule}
use Rattle.terms.specs.Represents.{Represents}
use Rattle.terms.specs.Measures.{measure_all}
use Rattle.terms.proofs.measure.RuleMeasure.of.Given as goal

abbrev pub invariant-loop-root : goal.invariant-loop-root
invariant-loop-root l = (r : Rule) → Represents l.rule r → l.needs ≡ measure_all (bits r.width) (take l.root-index r.needs)
