-- `image::of_step` meets its contract: the step on six coordinates, and its image.
use Rattle.model.specs.Step.{Step}
use Rattle.forms.specs.Wide.{StepShaped, constant_small, linear_small, quadratic_small}
use Rattle.forms.specs.RowsTo.{linear_to, quadratic_to}
use Rattle.image.specs.StepAccepted.{step_of, shaped, entries_small}
use Rattle.image.proofs.Imaged.{imaged_narrow}
use Rattle.image.proofs.of_step.Goals as goal
use Rattle.image.proofs.of_step.Goals.{Start}

module _ (z : Start) where
  abbrev P : Step
  P = step_of z.args.m z.args.n z.args.c.now z.args.a.now z.args.q.now

  shape : StepShaped P
  shape = shaped P z.requires.0

pub wide_linear-linear-requires : goal.wide_linear-linear-requires
wide_linear-linear-requires c = (shape (goal.at.wide_linear-linear-requires c).Start).columns

pub wide_quadratic-quadratic-requires : goal.wide_quadratic-quadratic-requires
wide_quadratic-quadratic-requires c = (shape (goal.at.wide_quadratic-quadratic-requires c).Start).columns

pub of_wide_step-requires : goal.of_wide_step-requires
of_wide_step-requires c =
    let b = entries_small (P (goal.at.of_wide_step-requires c).Start) c.requires.0 in (
      (shape (goal.at.of_wide_step-requires c).Start).rows,
      rw c.wide_constant-constant.ensures (constant_small 1048576 c.args.c.now b.0),
      rw c.wide_linear-linear.ensures (linear_small 32768 c.args.n c.args.a.now b.1),
      rw c.wide_quadratic-quadratic.ensures (quadratic_small 32768 c.args.n c.args.q.now b.2),
      rw c.wide_linear-linear.ensures (linear_to (P (goal.at.of_wide_step-requires c).Start) (shape (goal.at.of_wide_step-requires c).Start)),
      rw c.wide_quadratic-quadratic.ensures (quadratic_to (P (goal.at.of_wide_step-requires c).Start) (shape (goal.at.of_wide_step-requires c).Start)),
      c.requires.1,
      c.requires.2.below,
      c.requires.3,
      c.requires.4,
    )

pub returns : goal.returns
returns c =
    imaged_narrow (P (goal.at.returns c).Start) (shape (goal.at.returns c).Start) c.args.gains.now c.requires.2 c.args.s c.requires.1 _ _ _ _ _
    (rw (c.wide_constant-constant.ensures, c.wide_linear-linear.ensures, c.wide_quadratic-quadratic.ensures) at c.of_wide_step.ensures)
