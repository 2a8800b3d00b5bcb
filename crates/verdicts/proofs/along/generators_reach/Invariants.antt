-- `along::generators_reach` meets its contract: the sum so far is that of the generators passed.
use mathlib.Core.Path.{◌≡◌}
use Prim.Native.Nat.{◌-◌, ◌*◌, ◌≤◌}
use Rattle.verdicts.specs.Along.{row_bound, size_sum}
use Rattle.verdicts.proofs.along.generators_reach.Given as goal

abbrev pub invariant-loop-g : goal.invariant-loop-g
invariant-loop-g l = (l.g ≤ l.s.generators) × (l.sum ≡ size_sum l.a l.s.vectors l.s.dimension l.g) × (l.sum ≤ l.g * row_bound)

abbrev pub decreases-loop-g : goal.decreases-loop-g
decreases-loop-g l = l.s.generators - l.g
