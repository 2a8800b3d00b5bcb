-- `row_gain` meets its contract: n products that each fit 56 bits.
use Rattle.std.proofs.Common.{rules, arith}
use Rattle.image.specs.Summing.{summed, sum_fits}
use Rattle.widths.specs.Widths.{width_term}
use Rattle.widths.specs.Gained.{row_small}
use Rattle.widths.proofs.row_gain.Goals as goal

pub sum-requires-clause-fits : goal.sum-requires-clause-fits
sum-requires-clause-fits c =
    let g = c.args in
    sum_fits (width_term g.n g.spans.now g.widths.now g.from g.factor) g.n (cc) c.map.ensures.closure (λ x r q k. search rules) _
    (omega (arith, row_small g.n g.spans.now c.requires.0 c.requires.4 g.widths.now c.requires.3 g.from g.factor c.requires.2))

pub returns : goal.returns
returns c =
    let g = c.args in
    let e = summed (width_term g.n g.spans.now g.widths.now g.from g.factor) g.n (cc) c.map.ensures.closure (λ x r q k. search rules) _
    c.sum.ensures.ran in
    (e, rw e (row_small g.n g.spans.now c.requires.0 c.requires.4 g.widths.now c.requires.3 g.from g.factor c.requires.2))
