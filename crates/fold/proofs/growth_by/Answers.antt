-- `fold::growth_by` meets its contract, by `half_size_up` for an even term.
use mathlib.Core.Path.{ap, ◌∙◌}
use lib.IntN.{nat_abs}
use mir.Facts.{to_z-of_z}
use Rattle.whole.specs.Half.{half_size}
use Rattle.model.specs.Finish.{growth}
use Rattle.fold.proofs.growth_by.Goals as goal

pub returns-then-even : goal.returns-then-even
unfolding growth
returns-then-even c = rw c.if-even.true (c.half_size_up.ensures ∙ ap half_size (to_z-of_z c.ranges.g))

pub returns-else-even : goal.returns-else-even
unfolding growth
returns-else-even c = rw c.if-even.false (c.unsigned_abs.ensures.value ∙ ap nat_abs (to_z-of_z c.ranges.g))
