-- `results::independent` meets its contract.
use Rattle.std.specs.Prelude.{refl}
use Rattle.model.specs.Limits.{standard_weights}
use Rattle.model.specs.Operations.{renumbered, independent_sum}
use Rattle.model.specs.Library.{bad_next}
use Rattle.zonotope.specs.Record.{view, given}
use Rattle.zonotope.specs.Answer.{nothing_found, or_else}
use Rattle.answers.specs.Answer.{of_result, result-refused, result-next}
use Rattle.answers.specs.Order.{neither}
use Rattle.summing.specs.Summable.{of_factors}
use Rattle.summing.specs.Arguments.{before_summing, of_next, summable, next_in, next-above}
use Rattle.sums.specs.Causes.{independent_order}
use Rattle.sums.proofs.results.independent.Goals as goal

pub returns-in_err-before_renumbering : goal.returns-in_err-before_renumbering
returns-in_err-before_renumbering c =
    let a = c.args in
    let m = independent_sum standard_weights a.next (view a.first) (view a.second) in
    result-refused (or_else (before_summing (given a.first) (given a.second)) (of_next (bad_next a.next (view a.first))))
    (or_else (of_factors (view a.first) (renumbered a.next (view a.second))) (of_result m))
    (independent_order a.next (given a.first) (given a.second)) m
    c.in_err-before_renumbering.ensures.value c.from_residual.ensures.1

pub independent-requires : goal.independent-requires
independent-requires c =
    let o = c.in_ok-before_renumbering.ensures in
    let a = c.args in
    let n = neither (before_summing (given a.first) (given a.second)) (of_next (bad_next a.next (view a.first)))
    (nothing_found _ o.value) in
    let above = next-above a.next (view a.first) (next_in _ n.1) in
    (summable a.first a.second (o.sized refl) n.0, record { few = above.1 })

pub returns : goal.returns
returns c =
    let a = c.args in
    let m = independent_sum standard_weights a.next (view a.first) (view a.second) in
    result-next (or_else (before_summing (given a.first) (given a.second)) (of_next (bad_next a.next (view a.first))))
    (or_else (of_factors (view a.first) (renumbered a.next (view a.second))) (of_result m))
    (independent_order a.next (given a.first) (given a.second)) m
    c.in_ok-before_renumbering.ensures.value c.independent.ensures
