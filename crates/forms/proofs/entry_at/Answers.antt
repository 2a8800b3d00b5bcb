-- `forms::entry_at` meets its contract, by its test.
use mathlib.Core.Path.{sym, ◌∙◌}
use Rattle.whole.specs.Fits.{got32}
use Rattle.forms.specs.Wide.{entry_is, entry_past}
use Rattle.forms.proofs.entry_at.Goals as goal

pub returns-then-j-n : goal.returns-then-j-n
returns-then-j-n c =
    let g = c.args in
    got32 (c.number_at.ensures ∙ sym (entry_is g.xs.now g.n g.i g.j c.if-j-n.true)) c.number_at.type_inv

pub returns-else-j-n : goal.returns-else-j-n
returns-else-j-n c = let g = c.args in sym (entry_past g.xs.now g.n g.i g.j c.if-j-n.false)
