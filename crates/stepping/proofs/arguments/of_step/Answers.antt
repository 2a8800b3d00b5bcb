-- `arguments::of_step` meets its contract: the shape, then the numbers.
use Rattle.std.proofs.Common.{sym, ap, ◌∙◌}
use Rattle.model.specs.Run.{first_of}
use Rattle.zonotope.specs.Answer.{examined}
use Rattle.image.specs.StepAccepted.{step_of}
use Rattle.answers.specs.Answer.{refused-first, asked-next}
use Rattle.stepping.specs.Arguments.{of_shape, numbers_in, step-parts}
use Rattle.stepping.proofs.arguments.of_step.Goals as goal

pub returns-in_err-of_shape : goal.returns-in_err-of_shape
returns-in_err-of_shape c =
    let a = c.args in
    let p = step_of a.m a.n a.c.now a.a.now a.q.now in
    refused-first (first_of (of_shape p)) (first_of (numbers_in p a.dimension)) c.in_err-of_shape.ensures c.from_residual.ensures.1
    ∙ ap examined (sym (step-parts p a.dimension))

pub returns : goal.returns
returns c =
    let a = c.args in
    let p = step_of a.m a.n a.c.now a.a.now a.q.now in
    asked-next (first_of (of_shape p)) (first_of (numbers_in p a.dimension)) c.in_ok-of_shape.ensures c.of_numbers.ensures
    ∙ ap examined (sym (step-parts p a.dimension))
