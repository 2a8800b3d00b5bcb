-- `align::wide::align_rows` meets its contract: each turn adds a row.
use mathlib.Core.Path.{◌≡◌}
use Prim.Native.Nat.{◌*◌, ◌-◌, ◌≤◌}
use lib.ListN.{length}
use Rattle.whole.specs.Write.{write}
use Rattle.align.specs.Runs.{flat}
use Rattle.align.specs.Align.{aligned_at}
use Rattle.align.proofs.wide.align_rows.Given as goal

abbrev pub invariant-loop-t : goal.invariant-loop-t
invariant-loop-t l = (l.t ≤ l.h) × (l.e ≡ write l.initial.e (l.to * 12) (flat 12 (aligned_at l.exponents l.p l.ids l.n l.all)) (l.t * 12)) ×
    (length l.e ≡ length l.initial.e)

abbrev pub decreases-loop-t : goal.decreases-loop-t
decreases-loop-t l = l.h - l.t
