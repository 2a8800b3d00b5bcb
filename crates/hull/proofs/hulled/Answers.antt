-- `hulled` meets its contract.
use Rattle.std.specs.Prelude.{refl}
use Rattle.model.specs.Limits.{standard_weights}
use Rattle.model.specs.Hull.{hull}
use Rattle.zonotope.specs.Record.{view, given}
use Rattle.zonotope.specs.Answer.{nothing_found, or_else}
use Rattle.answers.specs.Answer.{of_result, result-refused, result-next}
use Rattle.answers.specs.Order.{neither}
use Rattle.summing.specs.Arguments.{before_summing, summable}
use Rattle.hulling.specs.Hulled.{of_blended}
use Rattle.hull.specs.Causes.{of_blend, hull-order}
use Rattle.hull.proofs.hulled.Goals as goal

pub returns-in_err-before_hulling : goal.returns-in_err-before_hulling
returns-in_err-before_hulling c =
    let a = c.args in
    let m = hull standard_weights a.next (view a.first) (view a.second) in
    result-refused (or_else (before_summing (given a.first) (given a.second)) (of_blend a.next (view a.first) (view a.second)))
    (or_else (of_blended (view a.first) (view a.second)) (of_result m)) (hull-order a.next (given a.first) (given a.second)) m
    c.in_err-before_hulling.ensures.value c.from_residual.ensures.1

pub hulled-requires : goal.hulled-requires
hulled-requires c =
    let o = c.in_ok-before_hulling.ensures in
    let a = c.args in
    summable a.first a.second (o.sized refl)
    (neither (before_summing (given a.first) (given a.second)) (of_blend a.next (view a.first) (view a.second)) (nothing_found _ o.value)).0

pub returns : goal.returns
returns c =
    let a = c.args in
    let m = hull standard_weights a.next (view a.first) (view a.second) in
    result-next (or_else (before_summing (given a.first) (given a.second)) (of_blend a.next (view a.first) (view a.second)))
    (or_else (of_blended (view a.first) (view a.second)) (of_result m)) (hull-order a.next (given a.first) (given a.second)) m
    c.in_ok-before_hulling.ensures.value c.hulled.ensures
