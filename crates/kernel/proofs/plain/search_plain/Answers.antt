use Rattle.kernel.proofs.Trails.{falls}
use Rattle.kernel.proofs.plain.search_plain.Goals as goal

pub turns-smaller-else-not-flip : goal.turns-smaller-else-not-flip
turns-smaller-else-not-flip c = falls _ _ c.if-not-flip.ensures.turned

pub turns-smaller : goal.turns-smaller
turns-smaller c = falls _ _ c.decide.ensures.further
