-- `zonotope::empty` meets its contract: both sides compute to zeros.
use mathlib.Core.Path.{refl}
use Rattle.whole.specs.Tab.{tab}
use Rattle.zonotope.specs.Record.{pack}
use Rattle.zonotope.proofs.empty.Goals as goal

pub returns : goal.returns
unfolding pack tab
returns c = refl
