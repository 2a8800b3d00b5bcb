-- `image::remainder::slope_sum` meets its contract: six products that each fit 59 bits.
use Rattle.std.proofs.Common.{rules, arith, ◌*◌, nat_abs, get_or}
use Rattle.forms.specs.Tables.{row_of}
use Rattle.image.specs.Summing.{summed, sum_fits}
use Rattle.image.specs.Remainder.{slope_small}
use Rattle.image.proofs.remainder.slope_sum.Goals as goal

pub sum-requires-clause-fits : goal.sum-requires-clause-fits
sum-requires-clause-fits c =
    let g = c.args in
    sum_fits (λ j. nat_abs (row_of g.lines.now g.i j) * get_or g.w.now j 0) 6 (cc) c.map.ensures.closure (λ x r q k. search rules) _
    (omega (arith, slope_small g.lines.now g.w.now c.requires.1 c.requires.2 g.i))

pub returns : goal.returns
returns c =
    let g = c.args in
    let e = summed (λ j. nat_abs (row_of g.lines.now g.i j) * get_or g.w.now j 0) 6 (cc) c.map.ensures.closure (λ x r q k. search rules) _ c.sum.ensures.ran in
    (e, rw e (slope_small g.lines.now g.w.now c.requires.1 c.requires.2 g.i))
