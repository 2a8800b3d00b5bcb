-- `forms::form_entry_at` meets its contract, by its test.
use mathlib.Core.Path.{sym, ◌∙◌}
use Rattle.whole.specs.Fits.{got32}
use Rattle.forms.specs.Wide.{form-entry_is, form-entry_past}
use Rattle.forms.proofs.form_entry_at.Goals as goal

pub returns-then-j-n : goal.returns-then-j-n
returns-then-j-n c =
    let g = c.args in
    got32 (c.entry_at.ensures ∙ sym (form-entry_is g.q.now g.n g.i g.j g.l c.if-j-n.true)) c.entry_at.type_inv

pub returns-else-j-n : goal.returns-else-j-n
returns-else-j-n c = let g = c.args in sym (form-entry_past g.q.now g.n g.i g.j g.l c.if-j-n.false)
