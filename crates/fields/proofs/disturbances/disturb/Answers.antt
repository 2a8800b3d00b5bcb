-- `disturbances::disturb` meets its contract.
use Rattle.model.specs.Operations.{disturb}
use Rattle.model.specs.Body.{given_radii}
use Rattle.model.specs.Field.{meaning}
use Rattle.model.specs.Run.{first_of}
use Rattle.zonotope.specs.Record.{view}
use Rattle.zonotope.specs.Answer.{nothing_found}
use Rattle.answers.specs.Answer.{of_result, result-refused, result-next}
use Rattle.fields.specs.Disturbances.{of_disturbance, disturbance_order, disturbance_in}
use Rattle.fields.proofs.disturbances.disturb.Goals as goal

pub returns-in_err-of_body : goal.returns-in_err-of_body
unfolding meaning
returns-in_err-of_body c =
    let a = c.args in let b = a.body.now in
    let m = disturb (given_radii b) (view a.s) in
    result-refused (first_of (of_disturbance a.s.dimension b)) (of_result m) (disturbance_order b a.s) m
    c.in_err-of_body.ensures c.from_residual.ensures.1

pub read-requires : goal.read-requires
read-requires c = disturbance_in c.args.body.now c.args.s c.requires (nothing_found _ c.in_ok-of_body.ensures)

pub returns : goal.returns
unfolding meaning
returns c =
    let a = c.args in let b = a.body.now in
    let m = disturb (given_radii b) (view a.s) in
    result-next (first_of (of_disturbance a.s.dimension b)) (of_result m) (disturbance_order b a.s) m c.in_ok-of_body.ensures c.read.ensures
