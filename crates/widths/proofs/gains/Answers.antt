-- `gains` meets its contract: the spans, and the gains from them.
use Rattle.std.proofs.Common.{rules}
use Rattle.zonotope.specs.Record.{view}
use Rattle.forms.specs.Made.{made, callable}
use Rattle.image.specs.Remainder.{Below}
use Rattle.widths.specs.Gained.{gained}
use Rattle.widths.proofs.gains.Goals as goal

pub from_fn-requires : goal.from_fn-requires
from_fn-requires c =
    let spans : Below 1048576 c.of_set-spans.result = c.of_set-spans.ensures.1 in
    (search rules, callable 6 (λ i l. search rules) (λ i x q k. search rules))

pub returns : goal.returns
returns c =
    let g = c.args in
    gained g.m g.n (view g.s) c.of_set-spans.result g.da.now g.dq.now c.requires.0 c.of_set-spans.ensures _
    (made _ 6 0 (λ i x q l k. search rules) c.from_fn.ensures.items)
