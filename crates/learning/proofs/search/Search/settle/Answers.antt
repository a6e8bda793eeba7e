use Rattle.std.proofs.Common.{refl, ◌∙◌}
use Rattle.kernel.proofs.Trails.{went_none, went_on}
use Rattle.learning.proofs.search.Search.settle.Goals as goal

pub loop-c-init : goal.loop-c-init
loop-c-init c = (went_none _, refl, refl)

pub loop-c-preserved : goal.loop-c-preserved
loop-c-preserved c = (went_on _ _ _ c.loop-c.invariant.0 c.visit.ensures.went, c.visit.ensures.arena ∙ c.loop-c.invariant.1, c.visit.ensures.marks ∙ c.loop-c.invariant.2)

pub returns-in_err-visit-clause-went : goal.returns-in_err-visit-clause-went
returns-in_err-visit-clause-went c = went_on _ _ _ c.loop-c.invariant.0 c.visit.ensures.went

pub returns-in_err-visit-clause-arena : goal.returns-in_err-visit-clause-arena
returns-in_err-visit-clause-arena c = c.visit.ensures.arena ∙ c.loop-c.invariant.1

pub returns-in_err-visit-clause-marks : goal.returns-in_err-visit-clause-marks
returns-in_err-visit-clause-marks c = c.visit.ensures.marks ∙ c.loop-c.invariant.2
