-- `align::wide::add_wide` meets its contract: the sum of two 32-bit numbers fits 64 bits.
use mathlib.Core.Path.{ap₂, ◌∙◌}
use Prim.Native.Nat.{◌+◌, ◌*◌, ◌^◌, ◌<◌, ◌≤◌}
use native.Mathlib.Nat.{mul-le-mul}
use native.Mathlib.Omega.{arith}
use lib.IntN.{ℤ, nat_abs, ◌+ℤ◌, ◌*ℤ◌}
use mir.Facts.{to_z-of_z}
use mir.Val.{SFits}
use mir.Syntax.{w32}
use Rattle.whole.specs.Fits.{abs_fits, got64}
use Rattle.align.proofs.wide.add_wide.Goals as goal

sum_fits : (x sign y : ℤ) → SFits w32 x → nat_abs sign ≤ 1 → SFits w32 y → nat_abs x + nat_abs sign * nat_abs y < 2 ^ 63
sum_fits x sign y f h g = omega (arith, abs_fits f, mul-le-mul h (abs_fits g))

pub multiply_add-requires : goal.multiply_add-requires
multiply_add-requires c =
    let s = c in
    rw (
      got64 c.from.ensures c.from.type_inv,
      got64 c.from-2.ensures c.from-2.type_inv,
      to_z-of_z s.ranges.x,
      to_z-of_z s.ranges.sign,
      to_z-of_z s.ranges.y,
    )
    (sum_fits s.args.x s.args.sign s.args.y s.ranges.x s.requires s.ranges.y)

pub returns : goal.returns
returns c =
    let s = c in
    got64 c.multiply_add.ensures c.multiply_add.type_inv
    ∙ ap₂ ◌+ℤ◌ (got64 c.from.ensures c.from.type_inv ∙ to_z-of_z s.ranges.x)
    (ap₂ ◌*ℤ◌ (to_z-of_z s.ranges.sign) (got64 c.from-2.ensures c.from-2.type_inv ∙ to_z-of_z s.ranges.y))
