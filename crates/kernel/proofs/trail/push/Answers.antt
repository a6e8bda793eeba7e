use Rattle.std.proofs.Common.{refl, arith}
use Rattle.kernel.proofs.Trails.{pushed_at, has_room, has_place}
use Rattle.kernel.proofs.trail.push.Goals as goal

pub bounds-literals-n : goal.bounds-literals-n
bounds-literals-n c = has_room _ _ _ c.requires.trail _ c.requires.free.fits c.requires.free.free

pub bounds-kinds-n : goal.bounds-kinds-n
bounds-kinds-n c = omega (arith, has_place _ _ _ c.requires.trail _ c.requires.free.fits c.requires.free.free, c.requires.room)

pub returns : goal.returns
returns c = record {
  trail = pushed_at _ _ _ c.requires.trail _ c.requires.free.fits c.requires.free.free c.requires.free.lit _ (omega arith);
  set = refl;
  kind = refl;
  below = has_place _ _ _ c.requires.trail _ c.requires.free.fits c.requires.free.free;
}
