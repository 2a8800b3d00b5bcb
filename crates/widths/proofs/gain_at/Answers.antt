-- `gain_at` meets its contract: nothing past the step's coordinates, and two sums that together fit 61 bits.
use native.Mathlib.Omega.{arith}
use mathlib.Core.Path.{sym, ap₂}
use Prim.Native.Nat.{◌+◌, ◌*◌, ◌≤◌}
use native.Mathlib.Nat.{mul-le-mul}
use Rattle.widths.specs.Gained.{gain_past, form-ends}
use Rattle.widths.proofs.gain_at.Goals as goal

pub returns-then-m-i : goal.returns-then-m-i
returns-then-m-i c =
    let g = c.args in
    sym (gain_past g.m g.n g.spans.now g.da.now g.dq.now c.requires.0 g.i c.if-m-i.true)

pub overflow_mul-i : goal.overflow_mul-i
overflow_mul-i c =
    let ok = c.requires.0 in
    let b : c.args.i * c.args.n ≤ 36 = mul-le-mul {n₂ = 6} (omega (arith, ok.rows, c.if-m-i.false)) ok.columns in
    omega arith

pub row_gain-requires : goal.row_gain-requires
row_gain-requires c =
    let g = c.args in
    let ok = c.requires.0 in
    let ends = form-ends g.m g.n g.spans.now g.da.now g.dq.now ok g.i c.if-m-i.false in
    (ok.columns, ends.0, omega arith, ok.linear_small, c.requires.1)

pub form_gain-requires : goal.form_gain-requires
form_gain-requires c =
    let g = c.args in
    let ok = c.requires.0 in
    let ends = form-ends g.m g.n g.spans.now g.da.now g.dq.now ok g.i c.if-m-i.false in
    (omega (arith, ok.rows, c.if-m-i.false), ok.columns, ends.1, ok.quadratic_small, c.requires.1)

pub overflow_add-result : goal.overflow_add-result
overflow_add-result c = omega (arith, c.row_gain.ensures.1, c.form_gain.ensures.1)

pub returns : goal.returns
returns c = ap₂ ◌+◌ c.row_gain.ensures.0 c.form_gain.ensures.0
