-- What a verdict on a rule says.
use Rattle.std.specs.Prelude.{slice_index}
use Rattle.terms.specs.Terms.{Rule, Holds as RuleHolds, Fails as RuleFails}
use Rattle.small_rules.specs.declared.trial.Verdict.{Verdict}
use Rattle.small_rules.specs.declared.trial.Verdict.TheVariants.{Holds, Fails, Untried}

-- the rule holds, or it fails at the values that the verdict has
abbrev pub Right : Verdict → Rule → Type 0
Right Holds r = RuleHolds r
Right (Fails a) r = RuleFails r (λ k. slice_index a.any k) (λ k. slice_index a.con k)
Right Untried r = Unit {0}
