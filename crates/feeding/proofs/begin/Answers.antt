-- `feeding::begin` meets its contract.
use mathlib.Core.Path.{ap}
use mathlib.Core.Bool.{false}
use Rattle.states.specs.declared.State.{State}
use Rattle.feeding.proofs.begin.Goals as goal

pub returns : goal.returns
returns c = ap (λ (s : State). record { state = s; place = 0; done = false }) c.begin.ensures
