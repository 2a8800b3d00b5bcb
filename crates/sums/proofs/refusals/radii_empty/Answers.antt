-- `refusals::radii_empty` meets its contract.
use mathlib.Core.Path.{sym, ap, ◌∙◌}
use mathlib.Core.Bool.{not}
use Rattle.model.proofs.Tests.{zero-radii}
use Rattle.sums.proofs.refusals.radii_empty.Goals as goal

pub returns : goal.returns
returns c = ap not c.any_above.ensures ∙ sym (zero-radii _)
