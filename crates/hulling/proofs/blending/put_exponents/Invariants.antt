-- `blending::put_exponents` meets its contract.
use mathlib.Core.Path.{◌≡◌}
use Prim.Native.Nat.{◌*◌, ◌-◌, ◌≤◌}
use lib.ListN.{length}
use Rattle.whole.specs.Write.{write}
use Rattle.hulling.specs.Blending.{power_at}
use Rattle.hulling.proofs.blending.put_exponents.Given as goal

abbrev pub invariant-loop-x : goal.invariant-loop-x
invariant-loop-x l = (l.x ≤ l.rows * 12) × (l.f ≡ write l.initial.f (l.to * 12) (power_at l.e l.n l.p) l.x) × (length l.f ≡ length l.initial.f)
    × (l.x-end ≡ l.rows * 12)

abbrev pub decreases-loop-x : goal.decreases-loop-x
decreases-loop-x l = l.rows * 12 - l.x
