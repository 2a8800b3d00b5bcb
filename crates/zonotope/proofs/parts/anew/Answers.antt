-- `parts::anew` meets its contract: both sides compute to the same.
use mathlib.Core.Path.{refl}
use Rattle.whole.specs.Tab.{tab}
use Rattle.zonotope.proofs.parts.anew.Goals as goal

pub returns : goal.returns
unfolding tab
returns c = refl
