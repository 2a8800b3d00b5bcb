-- `ranged_steps::read` meets its contract.
use native.Mathlib.Omega.{arith}
use Prim.Native.Nat.{◌*◌, ◌≤◌}
use Rattle.std.proofs.Common.{length-take-le, sym}
use Rattle.fields.specs.Entries.{entries_few, entries_room, widths_room, entries-ranged, widths-ranged}
use Rattle.fields.proofs.ranged_steps.read.Goals as goal
use Rattle.fields.proofs.ranged_steps.read.Goals.{After-byte_at-columns}

-- the counts that were read
few : (r : After-byte_at-columns)
    → (r.byte_at-rows.result ≤ 6) × (r.byte_at-columns.result ≤ 6) × (r.byte_at-rows.result * r.byte_at-columns.result ≤ 36)
    × (r.byte_at-rows.result * r.byte_at-columns.result * r.byte_at-columns.result ≤ 216)
few r =
    entries_few r.args.body.now r.requires.0.right r.byte_at-rows.ensures.0 r.byte_at-columns.ensures.0

pub overflow_mul-quadratics : goal.overflow_mul-quadratics
overflow_mul-quadratics c = omega (arith, (few (goal.at.overflow_mul-quadratics c).After-byte_at-columns).3)

pub slice_bounds-q-end : goal.slice_bounds-q-end
slice_bounds-q-end c = (few (goal.at.slice_bounds-q-end c).After-byte_at-columns).3

pub slice_bounds-quadratic-end : goal.slice_bounds-quadratic-end
slice_bounds-quadratic-end c = sym (length-take-le _ _ (few (goal.at.slice_bounds-quadratic-end c).After-byte_at-columns).3)

pub slice_bounds-dq-end : goal.slice_bounds-dq-end
slice_bounds-dq-end c = (few (goal.at.slice_bounds-dq-end c).After-byte_at-columns).3

pub slice_bounds-quadratic_widths-end : goal.slice_bounds-quadratic_widths-end
slice_bounds-quadratic_widths-end c =
    sym (length-take-le _ _ (few (goal.at.slice_bounds-quadratic_widths-end c).After-byte_at-columns).3)

pub step-requires : goal.step-requires
step-requires c =
    let h = c.requires.0 in
    let k = few (goal.at.step-requires c).After-byte_at-columns in
    entries_room c.args.body.now h.right c.byte_at-rows.ensures.0 c.byte_at-columns.ensures.0
    (length-take-le _ _ k.2) (length-take-le _ _ k.3) (omega (arith, h.whole)) (length-take-le _ _ k.0)

pub widths-requires : goal.widths-requires
widths-requires c =
    let h = c.requires.0 in
    let k = few (goal.at.widths-requires c).After-byte_at-columns in
    widths_room c.args.body.now h.right c.byte_at-rows.ensures.0 c.byte_at-columns.ensures.0
    (length-take-le _ _ k.2) (length-take-le _ _ k.3) h.whole

pub returns : goal.returns
returns c =
    let b = c.args.body.now in
    entries-ranged b c.byte_at-rows.ensures.0 c.byte_at-columns.ensures.0 c.step.ensures c.args.s
    (widths-ranged b _ c.widths.ensures c.negative_width.ensures c.args.s c.stepped.ensures)
