-- `disturbance::disturbed` meets its contract.
use mathlib.Core.Path.{◌≡◌, sym, ap, ◌∙◌}
use mathlib.Core.List.{List}
use Prim.Native.Nat.{ℕ}
use lib.Dec.{ltb}
use Rattle.whole.specs.Tests.{some_below}
use Rattle.model.specs.Limits.{max_span}
use Rattle.model.specs.Valid.{is_too_wide}
use Rattle.model.specs.Operations.{disturb}
use Rattle.arrays.specs.Rows.{span_at}
use Rattle.zonotope.specs.Record.{view}
use Rattle.zonotope.specs.Counts.{InLimits}
use Rattle.zonotope.specs.View.{view-wide}
use Rattle.answers.specs.Answer.{settled-wide, settled-narrow}
use Rattle.summing.specs.Disturb.{disturbed_limits, disturbed-width}
use Rattle.summing.proofs.disturbance.disturbed.Goals as goal
use Rattle.summing.proofs.disturbance.disturbed.Lts as lts
use Rattle.summing.proofs.disturbance.disturbed.Tie as tie
use Rattle.summing.proofs.disturbance.disturbed.Reads as reads

abbrev changed : lts.After-too_wide tie.the-claims reads.Pre reads.Post → lts.After-with_radii tie.the-claims reads.Pre reads.Post
changed w = w.before.before.before.before.before.before.before

-- the changed record is in the limits
limits : (w : lts.After-with_radii tie.the-claims reads.Pre reads.Post) → InLimits w.with_radii-t.result
limits w = rw w.with_radii-t.ensures (disturbed_limits _ _ w.requires)

-- the answer to whether the result is too wide
width : (w : lts.After-too_wide tie.the-claims reads.Pre reads.Post) → (let a = (changed w).args in
    w.too_wide.result ≡ is_too_wide (disturb a.radii.now (view a.s)))
width w =
    let t = (changed w).with_radii-t.result in
    w.too_wide.ensures
    ∙ ap (λ (r : List ℕ). some_below t.dimension (λ i.
    ltb max_span (span_at t.centre t.coefficients t.vectors r t.terms t.generators i)))
    w.totals-totals.ensures.0
    ∙ sym (view-wide _ (limits (changed w)).dimension)
    ∙ ap (λ t. is_too_wide (view t)) (changed w).with_radii-t.ensures
    ∙ disturbed-width _ _ (changed w).requires

pub too_wide-requires : goal.too_wide-requires
too_wide-requires c =
    let l = limits c.before.before.before.before.before.before.before in
    (l.dimension, l.terms, l.generators, c.totals-totals.ensures.1)

pub returns-then-too_wide : goal.returns-then-too_wide
returns-then-too_wide c = settled-wide _ (sym (width c.before.before) ∙ c.if-too_wide.true)

pub returns : goal.returns
returns c =
    settled-narrow _ (changed c.before.before).with_radii-t.ensures (sym (width c.before.before) ∙ c.if-too_wide.false)
