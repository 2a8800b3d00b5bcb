-- `reductions::of_layout` meets its contract.
use mathlib.Core.Path.{◌≡◌, sym, ◌∙◌}
use mathlib.Core.Bool.{Bool}
use Rattle.bodies.specs.Fields.{limits_out}
use Rattle.fields.specs.Layout.{counts-cut, counts_wrong, length_wrong, nothing_wrong}
use Rattle.fields.proofs.reductions.of_layout.Goals as goal
use Rattle.fields.proofs.reductions.of_layout.Goals.{After-limits_out}

-- what the test of the counts says, where its answer is t
wrong : (s : After-limits_out) {t : Bool} → s.limits_out.result ≡ t
    → limits_out s.args.body.now ≡ t
wrong s e = sym s.limits_out.ensures ∙ e

pub returns-then-body-lt2 : goal.returns-then-body-lt2
returns-then-body-lt2 c = counts-cut _ _ _ _ c.if-body-lt2.true

pub returns-then-limits_out : goal.returns-then-limits_out
returns-then-limits_out c = counts_wrong _ _ _ _ c.if-body-lt2.false (wrong (goal.at.returns-then-limits_out c).After-limits_out c.if-limits_out.true)

pub returns-then-body-ne2 : goal.returns-then-body-ne2
returns-then-body-ne2 c =
    length_wrong _ _ _ _ c.if-body-lt2.false (wrong (goal.at.returns-then-body-ne2 c).After-limits_out c.if-limits_out.false) c.if-body-ne2.true

pub returns : goal.returns
returns c =
    nothing_wrong _ _ _ _ c.if-body-lt2.false (wrong (goal.at.returns c).After-limits_out c.if-limits_out.false) c.if-body-ne2.false
