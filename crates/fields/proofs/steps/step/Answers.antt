-- `steps::step` meets its contract.
use lib.ListN.{length}
use Rattle.model.specs.Body.{step_length}
use Rattle.zonotope.specs.Answer.{nothing_found}
use Rattle.bodies.specs.Fields.{step_counts_out}
use Rattle.fields.specs.Layout.{laid_out}
use Rattle.fields.specs.Steps.{BodyLaid, step-stepped, step-refused}
use Rattle.fields.proofs.steps.step.Goals as goal
use Rattle.fields.proofs.steps.step.Goals.{In_ok-of_layout}

-- the body where its layout doesn't refuse it
body-laid : (i : In_ok-of_layout) → (let b = i.args.body.now in BodyLaid b (step_length b))
body-laid i =
    let b = i.args.body.now in
    laid_out 2 (step_counts_out b) (step_length b) (length b) (nothing_found _ i.in_ok-of_layout.ensures)

pub returns-in_err-of_layout : goal.returns-in_err-of_layout
returns-in_err-of_layout c =
    let a = c.args in
    let whole = step-refused a.body.now a.s c.in_err-of_layout.ensures c.from_residual.ensures.1 a.w.now a.e.now in
    record { value = whole.0; numbers = whole.1.0; exponents = whole.1.1 }

pub read-requires : goal.read-requires
read-requires c =
    (body-laid (goal.at.read-requires c).In_ok-of_layout, c.requires.0, c.requires.1, c.requires.2)

pub returns : goal.returns
returns c =
    let a = c.args in
    let whole = step-stepped a.body.now a.s (body-laid (goal.at.returns c).In_ok-of_layout) c.read.ensures in
    record { value = whole.0; numbers = whole.1.0; exponents = whole.1.1 }
