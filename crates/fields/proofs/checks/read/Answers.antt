-- `checks::read` meets its contract.
use Prim.Native.Nat.{◌*◌, ◌≤◌}
use native.Mathlib.Omega.{arith}
use Rattle.fields.specs.Checks.{region_few, region_room}
use Rattle.fields.proofs.checks.read.Goals as goal
use Rattle.fields.proofs.checks.read.Goals.{After-byte_at-count}

-- the counts that were read
few : (r : After-byte_at-count)
    → (r.byte_at-count.result * r.byte_at-n.result ≤ 48) × (r.byte_at-count.result ≤ 8)
few r =
    region_few r.args.body.now r.requires.1 r.byte_at-n.ensures.0 r.byte_at-count.ensures.0

pub overflow_mul-entries : goal.overflow_mul-entries
overflow_mul-entries c = omega (arith, (few (goal.at.overflow_mul-entries c).After-byte_at-count).0)

pub slice_bounds-normals-end : goal.slice_bounds-normals-end
slice_bounds-normals-end c = omega (arith, (few (goal.at.slice_bounds-normals-end c).After-byte_at-count).0)

pub slice_bounds-bounds-end : goal.slice_bounds-bounds-end
slice_bounds-bounds-end c = omega (arith, (few (goal.at.slice_bounds-bounds-end c).After-byte_at-count).1)

pub read_into-requires : goal.read_into-requires
read_into-requires c =
    let n = c.byte_at-n.ensures.0 in
    let count = c.byte_at-count.ensures.0 in
    (c.requires.0, n, count, region_room c.args.body.now c.requires.1 n count)

pub returns : goal.returns
returns c = c.read_into.ensures
