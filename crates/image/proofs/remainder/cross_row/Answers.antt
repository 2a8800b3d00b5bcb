-- `image::remainder::cross_row` meets its contract: a row of 0, or six cells that each fit 57 bits.
use Rattle.std.proofs.Common.{rules, arith, sym}
use Rattle.image.specs.Summing.{summed, sum_fits}
use Rattle.image.specs.Remainder.{row_cell, cross-row_small, cross-row-zero}
use Rattle.image.proofs.remainder.cross_row.Goals as goal

pub returns-then-dj-rj-eq0 : goal.returns-then-dj-rj-eq0
returns-then-dj-rj-eq0 c =
    let g = c.args in
    sym (cross-row-zero g.q.now g.d.now g.r.now g.i g.j c.if-dj-rj-eq0.true)

pub sum-requires-clause-fits : goal.sum-requires-clause-fits
sum-requires-clause-fits c =
    let g = c.args in
    sum_fits (row_cell g.q.now g.d.now g.r.now g.i g.j) 6 (cc) c.map.ensures.closure (λ x r q k. search rules) _
    (omega (arith, cross-row_small g.q.now g.d.now g.r.now c.requires.2 c.requires.3 c.requires.4 g.i g.j))

pub returns : goal.returns
returns c =
    let g = c.args in
    summed (row_cell g.q.now g.d.now g.r.now g.i g.j) 6 (cc) c.map.ensures.closure (λ x r q k. search rules) _ c.sum.ensures.ran
