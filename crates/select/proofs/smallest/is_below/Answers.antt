-- `smallest::is_below` meets its contract, by whether some of the bar's size are still to be kept.
use Rattle.select.specs.Bar.{below_none, below_some}
use Rattle.select.proofs.smallest.is_below.Goals as goal

pub returns-then-quota-eq0 : goal.returns-then-quota-eq0
returns-then-quota-eq0 c = below_none _ _ _ c.if-quota-eq0.true

pub returns-else-quota-eq0 : goal.returns-else-quota-eq0
returns-else-quota-eq0 c = below_some _ _ _ c.if-quota-eq0.false
