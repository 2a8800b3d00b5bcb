-- `results::reduced` meets its contract.
use Rattle.std.specs.Prelude.{refl}
use Rattle.model.specs.Limits.{standard_weights}
use Rattle.model.specs.Operations.{reduce}
use Rattle.zonotope.specs.Record.{view, given}
use Rattle.zonotope.specs.Answer.{nothing_found}
use Rattle.answers.specs.Answer.{of_result, result-refused, result-next}
use Rattle.sums.specs.Causes.{before_reducing, reduce-order}
use Rattle.sums.specs.Passed.{limits_accepted}
use Rattle.sums.proofs.results.reduced.Goals as goal

pub returns-in_err-before_reducing : goal.returns-in_err-before_reducing
returns-in_err-before_reducing c =
    let a = c.args in
    let m = reduce standard_weights a.term_limit a.generator_limit (view a.s) in
    result-refused (before_reducing a.term_limit a.generator_limit (given a.s)) (of_result m)
    (reduce-order a.term_limit a.generator_limit (given a.s)) m
    c.in_err-before_reducing.ensures.value c.from_residual.ensures.1

pub reduced-requires : goal.reduced-requires
reduced-requires c =
    let o = c.in_ok-before_reducing.ensures in
    limits_accepted c.args.s c.args.term_limit c.args.generator_limit (o.sized refl) (nothing_found _ o.value)

pub returns : goal.returns
returns c =
    let a = c.args in
    let m = reduce standard_weights a.term_limit a.generator_limit (view a.s) in
    result-next (before_reducing a.term_limit a.generator_limit (given a.s)) (of_result m)
    (reduce-order a.term_limit a.generator_limit (given a.s)) m
    c.in_ok-before_reducing.ensures.value c.reduced.ensures
