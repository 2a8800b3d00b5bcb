-- `region::is_apart` meets its contract, by the lower end.
use mathlib.Core.Path.{ap₂}
use mir.Facts.{to_z-of_z}
use Rattle.whole.specs.Fits.{got64}
use lib.Signed.{lt_z}
use Rattle.verdicts.proofs.region.is_apart.Goals as goal

pub returns : goal.returns
returns c =
    ap₂ lt_z (to_z-of_z c.ranges.b) (got64 c.lower_end.ensures.0 c.lower_end.type_inv)
