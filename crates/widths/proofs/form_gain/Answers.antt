-- `form_gain` meets its contract: n rows that each fit 58 bits.
use Rattle.std.proofs.Common.{rules, arith}
use Rattle.image.specs.Summing.{summed, sum_fits}
use Rattle.widths.specs.Widths.{form_row}
use Rattle.widths.specs.Gained.{form_small}
use Rattle.widths.proofs.form_gain.Goals as goal

pub sum-requires-clause-fits : goal.sum-requires-clause-fits
sum-requires-clause-fits c =
    let g = c.args in
    sum_fits (form_row g.n g.spans.now g.dq.now g.i) g.n (cc) c.map.ensures.closure (λ x r q k. search rules) _
    (omega (arith, form_small g.n g.spans.now c.requires.1 c.requires.4 g.dq.now c.requires.3 g.i))

pub returns : goal.returns
returns c =
    let g = c.args in
    let e = summed (form_row g.n g.spans.now g.dq.now g.i) g.n (cc) c.map.ensures.closure (λ x r q k. search rules) _ c.sum.ensures.ran in
    (e, rw e (form_small g.n g.spans.now c.requires.1 c.requires.4 g.dq.now c.requires.3 g.i))
