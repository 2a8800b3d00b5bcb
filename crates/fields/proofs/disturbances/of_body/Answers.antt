-- `disturbances::of_body` meets its contract.
use mathlib.Core.Path.{sym, ◌∙◌}
use Rattle.zonotope.specs.Answer.{nothing_found}
use Rattle.fields.specs.Layout.{laid_out}
use Rattle.fields.specs.Disturbances.{RadiiLaid, radii-refused, radii-dimension, radii_range, radii_unfilled, radii-accepted}
use Rattle.fields.proofs.disturbances.of_body.Goals as goal
use Rattle.fields.proofs.disturbances.of_body.Goals.{In_ok-of_layout}

pub returns-in_err-of_layout : goal.returns-in_err-of_layout
returns-in_err-of_layout c = radii-refused c.args.n c.args.body.now c.in_err-of_layout.ensures c.from_residual.ensures.1

-- where the layout doesn't refuse the body
body-laid : (i : In_ok-of_layout) → RadiiLaid i.args.body.now
body-laid i = laid_out _ _ _ _ (nothing_found _ i.in_ok-of_layout.ensures)

pub byte_at-requires : goal.byte_at-requires
byte_at-requires c = (body-laid (goal.at.byte_at-requires c).In_ok-of_layout).counts_in

pub returns-then-byte_at-n : goal.returns-then-byte_at-n
returns-then-byte_at-n c =
    let a = c.args in
    radii-dimension a.n a.body.now (body-laid (goal.at.returns-then-byte_at-n c).In_ok-of_layout) (λ e. c.if-byte_at-n.true (c.byte_at.ensures.0 ∙ e))

pub radii_out-requires : goal.radii_out-requires
radii_out-requires c = (body-laid (goal.at.radii_out-requires c).In_ok-of_layout).whole

pub returns-then-radii_out : goal.returns-then-radii_out
returns-then-radii_out c =
    let a = c.args in
    radii_range a.n a.body.now (body-laid (goal.at.returns-then-radii_out c).In_ok-of_layout) (sym c.byte_at.ensures.0 ∙ c.if-byte_at-n.false)
    (sym c.radii_out.ensures ∙ c.if-radii_out.true)

pub radii_empty-requires : goal.radii_empty-requires
radii_empty-requires c = (body-laid (goal.at.radii_empty-requires c).In_ok-of_layout).whole

pub returns-then-radii_empty : goal.returns-then-radii_empty
returns-then-radii_empty c =
    let a = c.args in
    radii_unfilled a.n a.body.now (body-laid (goal.at.returns-then-radii_empty c).In_ok-of_layout) (sym c.byte_at.ensures.0 ∙ c.if-byte_at-n.false)
    (sym c.radii_out.ensures ∙ c.if-radii_out.false) (sym c.radii_empty.ensures ∙ c.if-radii_empty.true)

pub returns : goal.returns
returns c =
    let a = c.args in
    radii-accepted a.n a.body.now (body-laid (goal.at.returns c).In_ok-of_layout) (sym c.byte_at.ensures.0 ∙ c.if-byte_at-n.false)
    (sym c.radii_out.ensures ∙ c.if-radii_out.false) (sym c.radii_empty.ensures ∙ c.if-radii_empty.false)
