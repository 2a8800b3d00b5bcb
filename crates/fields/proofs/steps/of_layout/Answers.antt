-- `steps::of_layout` meets its contract.
use mathlib.Core.Path.{◌≡◌, sym, ◌∙◌}
use mathlib.Core.Bool.{Bool}
use Rattle.bodies.specs.Fields.{step_counts_out}
use Rattle.fields.specs.Layout.{counts-cut, counts_wrong, length_wrong, nothing_wrong}
use Rattle.fields.proofs.steps.of_layout.Goals as goal
use Rattle.fields.proofs.steps.of_layout.Goals.{After-step_counts_out}

-- what the test of the counts says, where its answer is t
wrong : (s : After-step_counts_out) {t : Bool} → s.step_counts_out.result ≡ t
    → step_counts_out s.args.body.now ≡ t
wrong s e = sym s.step_counts_out.ensures ∙ e

pub returns-then-body-lt2 : goal.returns-then-body-lt2
returns-then-body-lt2 c = counts-cut _ _ _ _ c.if-body-lt2.true

pub returns-then-step_counts_out : goal.returns-then-step_counts_out
returns-then-step_counts_out c = counts_wrong _ _ _ _ c.if-body-lt2.false (wrong (goal.at.returns-then-step_counts_out c).After-step_counts_out c.if-step_counts_out.true)

pub returns-then-body-step_length : goal.returns-then-body-step_length
returns-then-body-step_length c =
    length_wrong _ _ _ _ c.if-body-lt2.false (wrong (goal.at.returns-then-body-step_length c).After-step_counts_out c.if-step_counts_out.false)
    (λ e. c.if-body-step_length.true (e ∙ sym c.step_length.ensures))

pub returns : goal.returns
returns c =
    nothing_wrong _ _ _ _ c.if-body-lt2.false (wrong (goal.at.returns c).After-step_counts_out c.if-step_counts_out.false)
    (c.if-body-step_length.false ∙ c.step_length.ensures)
