-- `smallest::find_bar` meets its contract: enough sizes reach the lower end, and no more than the limit the upper
-- one; a middle that exactly the limit reach is a bar.
use lib.ListN.{length}
use Prim.Native.Nat.{◌-◌, ◌<◌, ◌≤◌}
use Rattle.model.specs.Motion.{places}
use Rattle.model.proofs.Level.{level}
use Rattle.select.specs.Bar.{size_at}
use Rattle.select.proofs.smallest.find_bar.Given as goal

abbrev pub invariant-loop-low : goal.invariant-loop-low
invariant-loop-low l =
    (l.low < l.high) × (l.high ≤ l.top) × (l.limit ≤ level (size_at l.z) l.low (places (length l.z))) × (level (size_at l.z) l.high (places (length l.z)) ≤ l.limit)

abbrev pub decreases-loop-low : goal.decreases-loop-low
decreases-loop-low l = l.high - l.low
