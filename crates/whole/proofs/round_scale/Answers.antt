-- `whole::round_scale` meets its contract, by `Nearest.antt`.
use mathlib.Core.Path.{◌≡◌, ap, ◌∙◌}
use Prim.Native.Nat.{◌%◌}
use lib.IntN.{ℤ, pos, nat_abs}
use mir.Facts.{to_z-of_z}
use Rattle.whole.specs.Fits.{got64}
use Rattle.whole.specs.Floor.{floor}
use Rattle.whole.specs.Round.{scale}
use Rattle.whole.proofs.Stored.{stored}
use Rattle.whole.proofs.Nearest as nearest
use Rattle.whole.proofs.round_scale.Goals as goal
use Rattle.whole.proofs.round_scale.Goals.{After-floor_scale-below, After-odd}

below : (c : After-floor_scale-below) → stored c.floor_scale-below.result ≡ floor c.args.v scale
below c = got64 (c.floor_scale-below.ensures ∙ ap (λ (z : ℤ). floor z scale) (to_z-of_z c.ranges.v)) c.floor_scale-below.type_inv

parity : (c : After-odd) → stored c.odd.result ≡ pos (nat_abs (floor c.args.v scale) % 2)
parity c = got64 (c.odd.ensures ∙ ap (λ (z : ℤ). pos (nat_abs z % 2)) (below c.before)) c.odd.type_inv

pub overflow_add-result-3 : goal.overflow_add-result-3
overflow_add-result-3 c =
    let v = c in
    nearest.sum_fits v.args.v c.floor_scale-below.result v.ranges.v (below c.before) c.odd.result (parity c)

pub returns : goal.returns
returns c =
    let v = c in
    nearest.rounded v.args.v c.floor_scale-below.result v.ranges.v (below c.before) c.odd.result (parity c)
