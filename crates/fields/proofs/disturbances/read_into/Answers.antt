-- `disturbances::read_into` meets its contract.
use Rattle.fields.specs.Disturbances.{given_disturbable, given-disturbed}
use Rattle.fields.proofs.disturbances.read_into.Goals as goal

pub disturbed-requires : goal.disturbed-requires
disturbed-requires c =
    given_disturbable c.args.body.now c.radii.ensures c.args.s c.requires.2

pub returns : goal.returns
returns c =
    let a = c.args in
    given-disturbed a.body.now c.radii.ensures a.s c.disturbed.ensures
