-- `tied_sums::tied` meets its contract.
use Rattle.model.specs.Limits.{standard_weights}
use Rattle.model.specs.Operations.{tied_sum}
use Rattle.model.specs.Field.{meaning, too_many}
use Rattle.zonotope.specs.Record.{view}
use Rattle.fields.proofs.SetLaws.{made_refused, made_summable, made_answered}
use Rattle.fields.proofs.tied_sums.tied.Goals as goal

pub returns-in_err-second : goal.returns-in_err-second
unfolding meaning view
returns-in_err-second c =
    let a = c.args in let b = a.body.now in let u = view a.first in
    made_refused a.first b (too_many u) (tied_sum standard_weights u) 0
    c.in_err-second.ensures c.from_residual.ensures.1

pub tied-requires : goal.tied-requires
tied-requires c =
    let a = c.args in let b = a.body.now in let u = view a.first in
    made_summable a.first b (too_many u) (tied_sum standard_weights u) 0
    c.in_ok-second.ensures c.requires

pub returns : goal.returns
unfolding meaning view
returns c =
    let a = c.args in let b = a.body.now in let u = view a.first in
    made_answered a.first b (too_many u) (tied_sum standard_weights u) 0
    c.in_ok-second.ensures c.tied.ensures
