-- `hulls::hull` meets its contract.
use Prim.Native.Nat.{◌+◌}
use Rattle.model.specs.Limits.{standard_weights}
use Rattle.model.specs.Hull.{hull}
use Rattle.model.specs.Field.{meaning, too_many_blended}
use Rattle.zonotope.specs.Record.{view}
use Rattle.fields.proofs.SetLaws.{made_refused, made_summable, made_answered}
use Rattle.fields.proofs.hulls.hull.Goals as goal

pub returns-in_err-second : goal.returns-in_err-second
unfolding meaning view
returns-in_err-second c =
    let a = c.args in let b = a.body.now in let u = view a.first in
    made_refused a.first b (too_many_blended u) (hull standard_weights a.next u) (a.next + 1)
    c.in_err-second.ensures c.from_residual.ensures.1

pub hulled-requires : goal.hulled-requires
hulled-requires c =
    let a = c.args in let b = a.body.now in let u = view a.first in
    made_summable a.first b (too_many_blended u) (hull standard_weights a.next u) (a.next + 1)
    c.in_ok-second.ensures c.requires

pub returns : goal.returns
unfolding meaning view
returns c =
    let a = c.args in let b = a.body.now in let u = view a.first in
    made_answered a.first b (too_many_blended u) (hull standard_weights a.next u) (a.next + 1)
    c.in_ok-second.ensures c.hulled.ensures
