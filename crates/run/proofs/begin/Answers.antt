-- `run::begin` meets its contract.
use mathlib.Core.Path.{ap}
use Rattle.whole.specs.Tab.{tab}
use Rattle.model.specs.Limits.{first_fresh}
use Rattle.model.specs.Set.{blank}
use Rattle.zonotope.specs.declared.PolyZonotope.{PolyZonotope}
use mathlib.Core.Bool.{false}
use Rattle.run.proofs.begin.Goals as goal

pub returns : goal.returns
unfolding tab
returns c = ap (λ (s : PolyZonotope). record { set = s; next = first_fresh; count = 0; over = false; folded = blank 6 }) c.empty.ensures
