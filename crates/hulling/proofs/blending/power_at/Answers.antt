-- `blending::power_at` meets its contract.
use borrow.Author.Tests.{eq-eqb, ne_eqb}
use Rattle.hulling.proofs.blending.power_at.Goals as goal

pub returns-then-x-n : goal.returns-then-x-n
returns-then-x-n c = rw (eq-eqb _ _ c.if-x-n.true)

pub returns : goal.returns
returns c = rw (ne_eqb _ _ c.if-x-n.false)
