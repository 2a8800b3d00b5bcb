-- `results::tied` meets its contract.
use Rattle.std.specs.Prelude.{refl}
use Rattle.model.specs.Limits.{standard_weights}
use Rattle.model.specs.Operations.{tied_sum}
use Rattle.zonotope.specs.Record.{view, given}
use Rattle.zonotope.specs.Answer.{nothing_found, or_else}
use Rattle.answers.specs.Answer.{of_result, result-refused, result-next}
use Rattle.summing.specs.Summable.{of_factors}
use Rattle.summing.specs.Arguments.{before_summing, summable}
use Rattle.sums.specs.Causes.{tied-order}
use Rattle.sums.proofs.results.tied.Goals as goal

pub returns-in_err-before_summing : goal.returns-in_err-before_summing
returns-in_err-before_summing c =
    let a = c.args in
    let m = tied_sum standard_weights (view a.first) (view a.second) in
    result-refused (before_summing (given a.first) (given a.second))
    (or_else (of_factors (view a.first) (view a.second)) (of_result m)) (tied-order (given a.first) (given a.second)) m
    c.in_err-before_summing.ensures.value c.from_residual.ensures.1

pub tied-requires : goal.tied-requires
tied-requires c =
    let o = c.in_ok-before_summing.ensures in
    summable c.args.first c.args.second (o.sized refl) (nothing_found _ o.value)

pub returns : goal.returns
returns c =
    let a = c.args in
    let m = tied_sum standard_weights (view a.first) (view a.second) in
    result-next (before_summing (given a.first) (given a.second))
    (or_else (of_factors (view a.first) (view a.second)) (of_result m)) (tied-order (given a.first) (given a.second)) m
    c.in_ok-before_summing.ensures.value c.tied.ensures
