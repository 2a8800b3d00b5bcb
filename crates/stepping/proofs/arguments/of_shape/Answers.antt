-- `arguments::of_shape` meets its contract.
use mathlib.Core.Path.{◌≡◌, sym, ap, ap₂, ◌∙◌}
use mathlib.Core.Bool.{Bool, ◌||◌}
use lib.ListN.{length}
use Rattle.model.specs.Run.{first_of}
use Rattle.model.specs.Step.{Step}
use Rattle.model.specs.Field.{differs}
use Rattle.model.specs.Library.{bad_step_counts, bad_step_lengths}
use Rattle.image.specs.StepAccepted.{step_of}
use Rattle.stepping.specs.Arguments.{counts_in, lengths_apart}
use Rattle.stepping.proofs.arguments.of_shape.Goals as goal
use Rattle.stepping.proofs.arguments.of_shape.Goals.{Start, After-bad_dimension-2, After-lengths_differ}

-- what each test says of the step, where its answer is b
abbrev asked : (s : Start) → Step
asked s = let a = s.args in step_of a.m a.n a.c.now a.a.now a.q.now

counts : (s : After-bad_dimension-2) {b : Bool} → (s.bad_dimension.result || s.bad_dimension-2.result) ≡ b
    → bad_step_counts (asked s.before.before) ≡ b
counts s t = sym (ap₂ ◌||◌ s.bad_dimension.ensures s.bad_dimension-2.ensures) ∙ t

lengths : (s : After-lengths_differ) {b : Bool} →
    let p = asked s.before.before.before.before in
    (differs (length p.constant) p.rows || s.lengths_differ.result) ≡ b → bad_step_lengths p ≡ b
lengths s t =
    let p = asked s.before.before.before.before in
    lengths_apart p ∙ sym (ap (λ (x : Bool). differs (length p.constant) p.rows || x) s.lengths_differ.ensures) ∙ t

pub returns-then-bad_dimension : goal.returns-then-bad_dimension
unfolding first_of
returns-then-bad_dimension c = rw (counts c.before c.if-bad_dimension.true)

pub lengths_differ-requires : goal.lengths_differ-requires
lengths_differ-requires c = counts_in (asked c.before.before.before) (counts c.before c.if-bad_dimension.false)

pub returns-then-c-m : goal.returns-then-c-m
unfolding first_of
returns-then-c-m c =
    let l = c in
    rw (counts c.before.before.before l.if-bad_dimension.false, lengths c.before c.if-c-m.true)

pub returns : goal.returns
unfolding first_of
returns c =
    let l = c in
    rw (counts c.before.before.before l.if-bad_dimension.false, lengths c.before c.if-c-m.false)
