-- `select::marks::any_high` meets its contract: none of the first terms has such an exponent.
use Rattle.std.proofs.Common.{◌∙◌, sym, length, arith}
use Rattle.select.specs.Stage.{high-found, high_none}
use Rattle.select.proofs.marks.any_high.Goals as goal

pub returns-then-is_high : goal.returns-then-is_high
returns-then-is_high c =
    let g = c.args in
    λ s. sym (high-found g.e.now g.heads.now s (length g.heads.now) c.loop-x.x-index c.loop-x-test.true (sym (rw c.from.ensures at c.is_high.ensures) ∙ c.if-is_high.true))

pub returns : goal.returns
returns c =
    let g = c.args in
    λ s. sym (high_none g.e.now g.heads.now s (length g.heads.now) (λ i h. c.loop-x.invariant i (omega arith)))
