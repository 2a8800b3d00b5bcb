-- `image::remainder::size_sum` meets its contract: the sum of a coordinate's sizes, which is small.
use Rattle.std.proofs.Common.{rules, arith, nat_abs}
use Rattle.forms.specs.Tables.{row_of}
use Rattle.image.specs.Summing.{summed, sum_fits}
use Rattle.image.proofs.remainder.size_sum.Goals as goal

pub sum-requires-clause-fits : goal.sum-requires-clause-fits
sum-requires-clause-fits c =
    let g = c.args in
    sum_fits (λ t. nat_abs (row_of g.xs.now t g.i)) g.rows (cc) c.map.ensures.closure (λ x r q k. search rules) _ (omega (arith, c.requires.3))

pub returns : goal.returns
returns c =
    let g = c.args in
    summed (λ t. nat_abs (row_of g.xs.now t g.i)) g.rows (cc) c.map.ensures.closure (λ x r q k. search rules) _ c.sum.ensures.ran
