-- `raw::terms::linear_numbers` meets its contract: each row is written in turn.
use Rattle.std.proofs.Common.{arith, ◌≡◌, ◌∙◌, ap₂, ℕ, ℤ, List, pos, ◌+◌, ◌*◌, ◌/◌, ◌%◌}
use Rattle.model.specs.Step.{dot}
use Rattle.forms.specs.Tables.{row_of}
use Rattle.forms.specs.Filling.{writing_begins, first_on, writing_ends, copied}
use Rattle.raw.proofs.terms.linear_numbers.Goals as goal

abbrev F : List ℤ → List ℤ → ℕ → ℤ
F v lines y = dot 6 (row_of v (y / 6)) (row_of lines (y % 6))

pub loop-t-init : goal.loop-t-init
loop-t-init c = writing_begins _ 0 (F c.args.v.now c.args.lines.now) (c.args.rows * 6)

pub loop-t-preserved : goal.loop-t-preserved
loop-t-preserved c =
    let t = c.loop-t.t in
    let i = c.loop-t.invariant in
    first_on _ (F c.args.v.now c.args.lines.now) (c.args.rows * 6) (t * 6) 6 ((t + 1) * 6) c.loop-t.w _ _ i (omega arith) (omega arith)
    (copied c.loop-t.w (t * 6) _ 6 _ (pos 0) _ (omega arith) (omega (arith, i.long)) (c.copy_from_slice.ensures.after ∙ c.products-row.ensures))
    (λ j h.
    let d : t ≡ (t * 6 + j) / 6 = omega arith in
    let e : j ≡ (t * 6 + j) % 6 = omega arith in
    ap₂ (λ (x y : ℕ). dot 6 (row_of c.args.v.now x) (row_of c.args.lines.now y)) d e)

pub returns : goal.returns
returns c = writing_ends _ 0 (F c.args.v.now c.args.lines.now) (c.args.rows * 6) (c.loop-t.t * 6) c.loop-t.w c.loop-t.invariant (omega arith)
