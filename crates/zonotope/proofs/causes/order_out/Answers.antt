-- `causes::order_out` meets its contract, by its six tests.
use Rattle.std.proofs.Common.{sym, ap, ap₂, ◌∙◌}
use Rattle.std.specs.Prelude.{not, ◌||◌}
use Rattle.zonotope.specs.View.{view-order}
use Rattle.zonotope.proofs.causes.order_out.Goals as goal

pub returns : goal.returns
returns c =
    ap₂ ◌||◌ (ap₂ ◌||◌ (ap₂ ◌||◌ (ap₂ ◌||◌ (ap₂ ◌||◌ (ap not c.identifiers_rise.ensures) (ap not c.rows_rise.ensures))
    c.constant_rows.ensures) c.zero_rows.ensures) c.zero_rows-2.ensures) (ap not c.factors_occur.ensures)
    ∙ sym (view-order c.args.s.now)
