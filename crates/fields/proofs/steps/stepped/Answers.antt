-- `steps::stepped` meets its contract.
use mathlib.Core.Path.{ap, ◌∙◌}
use Rattle.model.specs.Limits.{standard_weights}
use Rattle.model.specs.Step as Step
use Rattle.model.specs.Library.{of_step}
use Rattle.zonotope.specs.Record.{view}
use Rattle.zonotope.specs.Answer.{nothing_found}
use Rattle.image.specs.Gaining.{none_gaining, none_gained}
use Rattle.answers.specs.Answer.{settled}
use Rattle.stepping.specs.Arguments.{step_in}
use Rattle.fields.specs.Asked.{step_from}
use Rattle.fields.specs.Steps.{stepped-refused, stepped-worked}
use Rattle.fields.proofs.steps.stepped.Goals as goal

pub returns-in_err-of_step : goal.returns-in_err-of_step
returns-in_err-of_step c =
    let a = c.args in
    let p = step_from a.p in
    stepped-refused (of_step p a.s.dimension) (Step.step standard_weights p (view a.s)) c.in_err-of_step.ensures c.from_residual.ensures.1
    a.w.now a.e.now

pub worked_out-requires : goal.worked_out-requires
worked_out-requires c =
    let a = c.args in
    (c.requires.0, step_in (step_from a.p) a.s.dimension (nothing_found _ c.in_ok-of_step.ensures), none_gaining a.p.rows, c.requires.1, c.requires.2)

pub returns : goal.returns
returns c =
    let a = c.args in
    let p = step_from a.p in
    let k = c.worked_out.ensures in
    stepped-worked (of_step p a.s.dimension) (Step.step standard_weights p (view a.s)) c.in_ok-of_step.ensures
    (k.value ∙ ap settled (none_gained standard_weights p (view a.s))) k.numbers k.exponents
