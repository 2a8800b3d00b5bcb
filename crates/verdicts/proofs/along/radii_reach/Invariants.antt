-- `along::radii_reach` meets its contract: the sum so far is that of the products passed, each less than 2^49.
use Rattle.std.proofs.Common.{◌≡◌, ◌*◌, ◌≤◌, length}
use Rattle.verdicts.specs.Along.{radius_sum}
use Rattle.verdicts.proofs.along.radii_reach.Given as goal

abbrev pub invariant-loop-x : goal.invariant-loop-x
invariant-loop-x l = (l.sum ≡ radius_sum l.a l.radii (length l.yielded)) × (l.sum ≤ length l.yielded * 562949953290240)
