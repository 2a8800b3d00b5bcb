-- `finish::record::narrow` meets its contract: the number fits 32 bits.
use native.Mathlib.Omega.{arith}
use mir.Syntax.{w32}
use mir.Facts.{to_z-of_z}
use Rattle.whole.specs.Fits.{fits_abs}
use Rattle.finish.proofs.record.narrow.Goals as goal

pub overflow_cast-result : goal.overflow_cast-result
overflow_cast-result c = rw (to_z-of_z c.ranges.x) (fits_abs (omega (arith, c.requires)))

pub returns : goal.returns
returns c = rw (to_z-of_z c.ranges.x) (to_z-of_z {w = w32} {z = c.args.x} (fits_abs (omega (arith, c.requires))))
