-- `independent_sums::independent` meets its contract.
use Prim.Native.Nat.{◌+◌}
use Rattle.model.specs.Limits.{standard_weights}
use Rattle.model.specs.Body.{factors}
use Rattle.model.specs.Operations.{renumbered, independent_sum}
use Rattle.model.specs.Field.{meaning, too_many}
use Rattle.zonotope.specs.Record.{view}
use Rattle.fields.proofs.SetLaws.{made_refused, made_summable, made_answered}
use Rattle.fields.proofs.independent_sums.independent.Goals as goal

pub returns-in_err-second : goal.returns-in_err-second
unfolding meaning view
returns-in_err-second c =
    let a = c.args in let b = a.body.now in let u = view a.first in
    made_refused a.first b (λ v. too_many u (renumbered a.next v)) (independent_sum standard_weights a.next u) (a.next + factors b)
    c.in_err-second.ensures c.from_residual.ensures.1

pub independent-requires : goal.independent-requires
independent-requires c =
    let a = c.args in let b = a.body.now in let u = view a.first in
    (made_summable a.first b (λ v. too_many u (renumbered a.next v)) (independent_sum standard_weights a.next u) (a.next + factors b) c.in_ok-second.ensures c.requires.0, c.requires.1)

pub returns : goal.returns
unfolding meaning view
returns c =
    let a = c.args in let b = a.body.now in let u = view a.first in
    made_answered a.first b (λ v. too_many u (renumbered a.next v)) (independent_sum standard_weights a.next u) (a.next + factors b)
    c.in_ok-second.ensures c.independent.ensures
