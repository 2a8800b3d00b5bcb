-- `disturbances::read` meets its contract.
use native.Mathlib.Omega.{arith}
use Rattle.fields.specs.Disturbances.{few_radii, radii_room}
use Rattle.fields.proofs.disturbances.read.Goals as goal

pub slice_bounds-radii-end : goal.slice_bounds-radii-end
slice_bounds-radii-end c =
    omega (arith, few_radii c.args.body.now c.requires.0, c.byte_at-n.ensures.0)

pub read_into-requires : goal.read_into-requires
read_into-requires c =
    (c.requires.0.whole, radii_room c.args.body.now c.requires.0 c.byte_at-n.ensures.0, c.requires.1)

pub returns : goal.returns
returns c = c.read_into.ensures
