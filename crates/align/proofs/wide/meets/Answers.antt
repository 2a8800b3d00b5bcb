-- `align::wide::meets` meets its contract, by its test.
use mathlib.Core.Path.{◌∙◌}
use borrow.Author.Tests.{le-ltb}
use Rattle.align.specs.Align.{meet-here, meet_past}
use Rattle.align.specs.Listed.{listed}
use Rattle.align.proofs.wide.meets.Goals as goal

pub returns-then-i-p : goal.returns-then-i-p
returns-then-i-p c =
    let s = c.args in
    c.stands_at.ensures ∙ meet-here s.p s.n s.i s.k s.ids.now s.all.now c.if-i-p.true

pub returns-else-i-p : goal.returns-else-i-p
returns-else-i-p c =
    let s = c.args in
    le-ltb s.i s.p c.if-i-p.false ∙ meet_past s.p s.i s.k s.ids.now (listed s.n s.all.now) c.if-i-p.false
