-- `steps::read` meets its contract.
use native.Mathlib.Omega.{arith}
use Prim.Native.Nat.{◌*◌, ◌≤◌}
use Rattle.std.proofs.Common.{length-take-le, sym}
use Rattle.fields.specs.Entries.{entries_few, entries_room, entries-stepped}
use Rattle.fields.proofs.steps.read.Goals as goal
use Rattle.fields.proofs.steps.read.Goals.{After-byte_at-columns}

-- the counts that were read
few : (r : After-byte_at-columns)
    → (r.byte_at-rows.result ≤ 6) × (r.byte_at-columns.result ≤ 6) × (r.byte_at-rows.result * r.byte_at-columns.result ≤ 36)
    × (r.byte_at-rows.result * r.byte_at-columns.result * r.byte_at-columns.result ≤ 216)
few r =
    entries_few r.args.body.now r.requires.0.right r.byte_at-rows.ensures.0 r.byte_at-columns.ensures.0

pub slice_bounds-q-end : goal.slice_bounds-q-end
slice_bounds-q-end c = (few (goal.at.slice_bounds-q-end c).After-byte_at-columns).3

pub slice_bounds-quadratic-end : goal.slice_bounds-quadratic-end
slice_bounds-quadratic-end c =
    sym (length-take-le _ _ (few (goal.at.slice_bounds-quadratic-end c).After-byte_at-columns).3)

pub step-requires : goal.step-requires
step-requires c =
    let h = c.requires.0 in
    let k = few (goal.at.step-requires c).After-byte_at-columns in
    entries_room c.args.body.now h.right c.byte_at-rows.ensures.0 c.byte_at-columns.ensures.0
    (length-take-le _ _ k.2) (length-take-le _ _ k.3) (omega (arith, h.whole)) (length-take-le _ _ k.0)

pub returns : goal.returns
returns c = entries-stepped c.args.body.now c.byte_at-rows.ensures.0 c.byte_at-columns.ensures.0 c.step.ensures c.args.s c.stepped.ensures
