-- `arguments::of_ranged_step` meets its contract: the shape, the lengths of the half-widths, the numbers, the half-widths.
use Rattle.std.specs.Prelude.{◌||◌}
use Rattle.std.proofs.Common.{sym, ap, ap₂, ◌∙◌, arith}
use Rattle.model.specs.Run.{first_of}
use Rattle.zonotope.specs.Answer.{examined, nothing_found}
use Rattle.image.specs.StepAccepted.{step_of, shaped}
use Rattle.widths.specs.Widths.{widths_of}
use Rattle.answers.specs.Answer.{refused-first}
use Rattle.stepping.specs.Arguments.{of_shape, numbers_in, of_widths, after_shape, ranged-parts, after-shape, after-lengths, after-numbers}
use Rattle.stepping.specs.Arguments.{shape_in, counts_in, parts_in, width_lengths}
use Rattle.stepping.proofs.arguments.of_ranged_step.Goals as goal

pub returns-in_err-of_shape : goal.returns-in_err-of_shape
returns-in_err-of_shape c =
    let a = c.args in
    let p = step_of a.m a.n a.c.now a.a.now a.q.now in
    let d = widths_of a.da.now a.dq.now in
    refused-first (first_of (of_shape p)) (after_shape p d a.dimension) c.in_err-of_shape.ensures c.from_residual.ensures.1
    ∙ ap examined (sym (ranged-parts p a.dimension d))

pub lengths_differ-requires : goal.lengths_differ-requires
lengths_differ-requires c =
    let a = c.args in
    let p = step_of a.m a.n a.c.now a.a.now a.q.now in
    counts_in p (shape_in p (nothing_found _ c.in_ok-of_shape.ensures)).0

pub returns-then-lengths_differ : goal.returns-then-lengths_differ
returns-then-lengths_differ c =
    let a = c.args in
    after-shape (step_of a.m a.n a.c.now a.a.now a.q.now) a.dimension (widths_of a.da.now a.dq.now) c.in_ok-of_shape.ensures
    (rw (sym c.lengths_differ.ensures ∙ c.if-lengths_differ.true))

pub returns-in_err-of_numbers : goal.returns-in_err-of_numbers
returns-in_err-of_numbers c =
    let a = c.args in
    let p = step_of a.m a.n a.c.now a.a.now a.q.now in
    let d = widths_of a.da.now a.dq.now in
    after-lengths p a.dimension d c.in_ok-of_shape.ensures (sym c.lengths_differ.ensures ∙ c.if-lengths_differ.false)
    (refused-first (first_of (numbers_in p a.dimension)) (first_of (of_widths p d)) c.in_err-of_numbers.ensures
    c.from_residual-in_err-of_numbers.ensures.1)

pub entries_beyond-requires : goal.entries_beyond-requires
entries_beyond-requires c =
    let a = c.args in
    let p = step_of a.m a.n a.c.now a.a.now a.q.now in
    let l = width_lengths p (widths_of a.da.now a.dq.now) (sym c.lengths_differ.ensures ∙ c.if-lengths_differ.false) in
    let s = shaped p
    (parts_in p a.dimension (nothing_found _ c.in_ok-of_shape.ensures) (nothing_found _ c.in_ok-of_numbers.ensures)) in
    omega (arith, s.linears, l.0)

pub entries_beyond-requires-2 : goal.entries_beyond-requires-2
entries_beyond-requires-2 c =
    let a = c.args in
    let p = step_of a.m a.n a.c.now a.a.now a.q.now in
    let l = width_lengths p (widths_of a.da.now a.dq.now) (sym c.lengths_differ.ensures ∙ c.if-lengths_differ.false) in
    let s = shaped p
    (parts_in p a.dimension (nothing_found _ c.in_ok-of_shape.ensures) (nothing_found _ c.in_ok-of_numbers.ensures)) in
    omega (arith, s.quadratics, l.1)

pub returns-then-entries_beyond : goal.returns-then-entries_beyond
unfolding first_of
returns-then-entries_beyond c =
    let a = c.args in
    after-numbers (step_of a.m a.n a.c.now a.a.now a.q.now) a.dimension (widths_of a.da.now a.dq.now) c.in_ok-of_shape.ensures
    (sym c.lengths_differ.ensures ∙ c.if-lengths_differ.false) c.in_ok-of_numbers.ensures
    (rw (sym (ap₂ ◌||◌ c.entries_beyond.ensures c.entries_beyond-2.ensures) ∙ c.if-entries_beyond.true))

pub returns : goal.returns
unfolding first_of
returns c =
    let a = c.args in
    after-numbers (step_of a.m a.n a.c.now a.a.now a.q.now) a.dimension (widths_of a.da.now a.dq.now) c.in_ok-of_shape.ensures
    (sym c.lengths_differ.ensures ∙ c.if-lengths_differ.false) c.in_ok-of_numbers.ensures
    (rw (sym (ap₂ ◌||◌ c.entries_beyond.ensures c.entries_beyond-2.ensures) ∙ c.if-entries_beyond.false))
