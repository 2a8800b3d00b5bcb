-- `disturbances::of_layout` meets its contract.
use mathlib.Core.Path.{◌≡◌, sym, ◌∙◌}
use mathlib.Core.Bool.{Bool}
use Rattle.model.specs.Body.{dimension}
use Rattle.model.specs.Field.{bad_dimension}
use Rattle.fields.specs.Layout.{counts-cut, counts_wrong, length_wrong, nothing_wrong}
use Rattle.fields.proofs.disturbances.of_layout.Goals as goal
use Rattle.fields.proofs.disturbances.of_layout.Goals.{After-radii_counts_out}

-- what the test of the counts says, where its answer is t
wrong : (s : After-radii_counts_out) {t : Bool} → s.radii_counts_out.result ≡ t
    → bad_dimension (dimension s.args.body.now) ≡ t
wrong s e = sym s.radii_counts_out.ensures ∙ e

pub returns-then-body-lt1 : goal.returns-then-body-lt1
returns-then-body-lt1 c = counts-cut _ _ _ _ c.if-body-lt1.true

pub returns-then-radii_counts_out : goal.returns-then-radii_counts_out
returns-then-radii_counts_out c = counts_wrong _ _ _ _ c.if-body-lt1.false (wrong (goal.at.returns-then-radii_counts_out c).After-radii_counts_out c.if-radii_counts_out.true)

pub returns-then-body-radii_length : goal.returns-then-body-radii_length
returns-then-body-radii_length c =
    length_wrong _ _ _ _ c.if-body-lt1.false (wrong (goal.at.returns-then-body-radii_length c).After-radii_counts_out c.if-radii_counts_out.false)
    (λ e. c.if-body-radii_length.true (e ∙ sym c.radii_length.ensures))

pub returns : goal.returns
returns c =
    nothing_wrong _ _ _ _ c.if-body-lt1.false (wrong (goal.at.returns c).After-radii_counts_out c.if-radii_counts_out.false)
    (c.if-body-radii_length.false ∙ c.radii_length.ensures)
