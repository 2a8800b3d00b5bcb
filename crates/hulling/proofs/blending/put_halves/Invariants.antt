-- `blending::put_halves` meets its contract.
use mathlib.Core.Path.{◌≡◌}
use Prim.Native.Nat.{◌*◌, ◌-◌, ◌≤◌}
use lib.ListN.{length}
use Rattle.whole.specs.Write.{write}
use Rattle.hulling.specs.Blending.{times_at}
use Rattle.hulling.proofs.blending.put_halves.Given as goal

abbrev pub invariant-loop-x : goal.invariant-loop-x
invariant-loop-x l = (l.x ≤ l.rows * 6) × (l.w ≡ write l.initial.w (l.to * 6) (times_at (l.half) l.c l.from) l.x)
    × (length l.w ≡ length l.initial.w) × (l.x-end ≡ l.rows * 6)

abbrev pub decreases-loop-x : goal.decreases-loop-x
decreases-loop-x l = l.rows * 6 - l.x
