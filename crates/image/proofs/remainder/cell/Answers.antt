-- `image::remainder::cell` meets its contract: three products of 21-bit numbers, times a 16-bit number.
use native.Mathlib.Omega.{arith}
use Prim.Native.Nat.{◌*◌, ◌≤◌}
use native.Mathlib.Nat.{mul-le-mul}
use Rattle.image.specs.Remainder.{cell_small}
use Rattle.image.proofs.remainder.cell.Goals as goal
use Rattle.image.proofs.remainder.cell.Goals.{Start}

bounds : (c : Start) →
    let g = c.args in
    (g.dj * g.rl ≤ 1099511627776) × (g.rj * g.dl ≤ 1099511627776) × (g.rj * g.rl ≤ 1099511627776)
bounds c = (mul-le-mul c.requires.1 c.requires.4, mul-le-mul c.requires.3 c.requires.2, mul-le-mul c.requires.3 c.requires.4)

pub overflow_mul-result : goal.overflow_mul-result
overflow_mul-result c = let b = bounds c in omega arith

pub overflow_mul-result-2 : goal.overflow_mul-result-2
overflow_mul-result-2 c = let b = bounds c in omega arith

pub overflow_add-result : goal.overflow_add-result
overflow_add-result c = let b = bounds c in omega arith

pub overflow_mul-result-3 : goal.overflow_mul-result-3
overflow_mul-result-3 c = let b = bounds c in omega arith

pub overflow_add-result-2 : goal.overflow_add-result-2
overflow_add-result-2 c = let b = bounds c in omega arith

pub overflow_mul-result-4 : goal.overflow_mul-result-4
overflow_mul-result-4 c =
    let g = c.args in
    omega (arith, cell_small g.q g.dj g.dl g.rj g.rl c.requires.0 c.requires.1 c.requires.2 c.requires.3 c.requires.4)
