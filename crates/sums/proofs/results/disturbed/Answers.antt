-- `results::disturbed` meets its contract.
use Rattle.std.specs.Prelude.{refl}
use Rattle.model.specs.Operations.{disturb}
use Rattle.zonotope.specs.Record.{view, given}
use Rattle.zonotope.specs.Answer.{nothing_found}
use Rattle.answers.specs.Answer.{of_result, result-refused, result-next}
use Rattle.sums.specs.Causes.{before_disturbing, disturb-order}
use Rattle.sums.specs.Passed.{disturbable}
use Rattle.sums.proofs.results.disturbed.Goals as goal

pub returns-in_err-before_disturbing : goal.returns-in_err-before_disturbing
returns-in_err-before_disturbing c =
    let a = c.args in
    let m = disturb a.radii.now (view a.s) in
    result-refused (before_disturbing a.n a.radii.now (given a.s)) (of_result m) (disturb-order a.n a.radii.now (given a.s)) m
    c.in_err-before_disturbing.ensures.value c.from_residual.ensures.1

pub disturbed-requires : goal.disturbed-requires
disturbed-requires c =
    let o = c.in_ok-before_disturbing.ensures in
    disturbable c.args.s c.args.n c.args.radii.now (o.sized refl) (nothing_found _ o.value)

pub returns : goal.returns
returns c =
    let a = c.args in
    let m = disturb a.radii.now (view a.s) in
    result-next (before_disturbing a.n a.radii.now (given a.s)) (of_result m) (disturb-order a.n a.radii.now (given a.s)) m
    c.in_ok-before_disturbing.ensures.value c.disturbed.ensures
