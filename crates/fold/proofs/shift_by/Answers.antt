-- `fold::shift_by` meets its contract, by `half` for an even term.
use mathlib.Core.Path.{ap, ◌∙◌}
use mir.Facts.{to_z-of_z}
use Rattle.whole.specs.Fits.{got64}
use Rattle.whole.specs.Half.{half}
use Rattle.model.specs.Finish.{shift}
use Rattle.fold.proofs.shift_by.Goals as goal

pub returns-then-even : goal.returns-then-even
unfolding shift
returns-then-even c =
    rw c.if-even.true (got64 (c.half.ensures ∙ ap half (to_z-of_z c.ranges.g)) c.half.type_inv)

pub returns-else-even : goal.returns-else-even
unfolding shift
returns-else-even c = rw c.if-even.false
