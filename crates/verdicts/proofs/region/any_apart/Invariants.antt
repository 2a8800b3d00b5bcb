-- `region::any_apart` meets its contract: the set is apart from no halfspace passed.
use mathlib.Core.Path.{◌≡◌}
use mathlib.Core.Bool.{false}
use Prim.Native.Nat.{ℕ, ◌+◌, ◌-◌, ◌*◌, ◌≤◌, ◌<◌}
use lib.ListN.{length}
use Rattle.model.specs.Set.{at}
use Rattle.model.specs.Operations.{low_along}
use Rattle.zonotope.specs.Record.{view}
use lib.Signed.{lt_z}
use Rattle.whole.specs.Tab.{tab}
use Rattle.verdicts.proofs.region.any_apart.Given as goal

abbrev pub invariant-loop-k : goal.invariant-loop-k
invariant-loop-k l = (l.k-end ≡ length l.bounds) × (l.k ≤ length l.bounds) ×
    ((j : ℕ) → j < l.k → lt_z (at l.bounds j) (low_along (tab l.n (λ i. at l.normals (j * l.n + i))) (view l.s)) ≡ false)

abbrev pub decreases-loop-k : goal.decreases-loop-k
decreases-loop-k l = length l.bounds - l.k
