-- `checks::effect` meets its contract.
use Rattle.fields.specs.Checks.{check_effect}
use Rattle.fields.proofs.checks.effect.Goals as goal

pub check-requires : goal.check-requires
check-requires c = c.requires

pub returns : goal.returns
returns c =
    let a = c.args in
    check_effect a.body.now a.next a.first c.requires c.check.ensures c.judged.ensures
