-- `image::remainder::cross_sum` meets its contract: six rows that each fit 60 bits.
use Rattle.std.proofs.Common.{rules, arith}
use Rattle.image.specs.Summing.{summed, sum_fits}
use Rattle.image.specs.Remainder.{cross_row, cross_small}
use Rattle.image.proofs.remainder.cross_sum.Goals as goal

pub sum-requires-clause-fits : goal.sum-requires-clause-fits
sum-requires-clause-fits c =
    let g = c.args in
    sum_fits (cross_row g.q.now g.d.now g.r.now g.i) 6 (cc) c.map.ensures.closure (λ x r q k. search rules) _
    (omega (arith, cross_small g.q.now g.d.now g.r.now c.requires.1 c.requires.2 c.requires.3 g.i))

pub returns : goal.returns
returns c =
    let g = c.args in
    let e = summed (cross_row g.q.now g.d.now g.r.now g.i) 6 (cc) c.map.ensures.closure (λ x r q k. search rules) _ c.sum.ensures.ran in
    (e, rw e (cross_small g.q.now g.d.now g.r.now c.requires.1 c.requires.2 c.requires.3 g.i))
