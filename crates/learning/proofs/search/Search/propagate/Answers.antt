use Rattle.std.proofs.Common.{refl, ◌∙◌}
use Rattle.kernel.proofs.Trails.{went_none, went_on}
use Rattle.learning.proofs.search.Search.propagate.Goals as goal

pub loop-place-init : goal.loop-place-init
loop-place-init c = (went_none _, refl, refl, refl)

pub loop-place-preserved : goal.loop-place-preserved
loop-place-preserved c = (went_on _ _ _ c.loop-place.invariant.0 c.visit_occurrences.ensures.went, c.visit_occurrences.ensures.low ∙ c.loop-place.invariant.1, c.visit_occurrences.ensures.long ∙ c.loop-place.invariant.2, c.visit_occurrences.ensures.marks ∙ c.loop-place.invariant.3)

pub returns-in_err-visit_occurrences-clause-went : goal.returns-in_err-visit_occurrences-clause-went
returns-in_err-visit_occurrences-clause-went c = went_on _ _ _ c.loop-place.invariant.0 c.visit_occurrences.ensures.went

pub returns-in_err-visit_occurrences-clause-low : goal.returns-in_err-visit_occurrences-clause-low
returns-in_err-visit_occurrences-clause-low c = c.visit_occurrences.ensures.low ∙ c.loop-place.invariant.1

pub returns-in_err-visit_occurrences-clause-long : goal.returns-in_err-visit_occurrences-clause-long
returns-in_err-visit_occurrences-clause-long c = c.visit_occurrences.ensures.long ∙ c.loop-place.invariant.2

pub returns-in_err-visit_occurrences-clause-marks : goal.returns-in_err-visit_occurrences-clause-marks
returns-in_err-visit_occurrences-clause-marks c = c.visit_occurrences.ensures.marks ∙ c.loop-place.invariant.3
