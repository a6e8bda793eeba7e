use Rattle.std.proofs.Common.{refl, ap, ◌∙◌, length}
use Rattle.kernel.specs.Arena.{Stored}
use Rattle.kernel.proofs.Trails.{went_none, went_on}
use Rattle.learning.proofs.search.Search.visit_occurrences.Goals as goal

pub loop-turn-init : goal.loop-turn-init
loop-turn-init c = (went_none _, refl, refl, refl)

pub loop-turn-preserved : goal.loop-turn-preserved
loop-turn-preserved c = (went_on _ _ _ c.loop-turn.invariant.0 c.visit.ensures.went, ap (λ (a : Stored). a.low) c.visit.ensures.arena ∙ c.loop-turn.invariant.1, ap (λ (a : Stored). length a.words) c.visit.ensures.arena ∙ c.loop-turn.invariant.2, c.visit.ensures.marks ∙ c.loop-turn.invariant.3)

pub returns-in_err-visit-clause-went : goal.returns-in_err-visit-clause-went
returns-in_err-visit-clause-went c = went_on _ _ _ c.loop-turn.invariant.0 c.visit.ensures.went

pub returns-in_err-visit-clause-low : goal.returns-in_err-visit-clause-low
returns-in_err-visit-clause-low c = ap (λ (a : Stored). a.low) c.visit.ensures.arena ∙ c.loop-turn.invariant.1

pub returns-in_err-visit-clause-long : goal.returns-in_err-visit-clause-long
returns-in_err-visit-clause-long c = ap (λ (a : Stored). length a.words) c.visit.ensures.arena ∙ c.loop-turn.invariant.2

pub returns-in_err-visit-clause-marks : goal.returns-in_err-visit-clause-marks
returns-in_err-visit-clause-marks c = c.visit.ensures.marks ∙ c.loop-turn.invariant.3
