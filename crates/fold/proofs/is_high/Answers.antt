-- `fold::is_high` meets its contract: a byte above 63 has one of the two highest digits.
use mathlib.Core.Bool.{not}
use mathlib.Core.Path.{ap, ◌∙◌}
use Rattle.rows.specs.Words.{bytes_of}
use Rattle.fold.specs.Exponents.{row-high}
use Rattle.fold.proofs.is_high.Goals as goal

pub returns : goal.returns
returns c =
    let s = c in
    let g = s.args in
    ap not c.clear_of.ensures
    ∙ row-high g.e.now g.x (bytes_of c.type_inv.e)
