-- The step and the half-widths that are given in slices.
use Rattle.model.specs.Step.{Step}
use Rattle.model.specs.Ranged.{Widths}
use Rattle.image.specs.StepAccepted.{step_of}
use Rattle.widths.specs.Widths.{widths_of}
use Rattle.fields.specs.declared.steps.Entries as entries
use Rattle.fields.specs.declared.ranged_steps.Widths as widths

abbrev pub step_from : entries.Entries → Step
step_from p = step_of p.rows p.columns p.constant.now p.linear.now p.quadratic.now

abbrev pub widths_from : widths.Widths → Widths
widths_from d = widths_of d.linear.now d.quadratic.now
