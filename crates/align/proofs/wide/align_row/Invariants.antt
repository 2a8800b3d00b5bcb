-- `align::wide::align_row` meets its contract: each column gets the exponent of its factor, or 0.
use mathlib.Core.Path.{◌≡◌}
use Prim.Native.Nat.{◌*◌}
use lib.ListN.{length}
use Rattle.whole.specs.Write.{write}
use Rattle.arrays.specs.Rows.{row}
use Rattle.align.specs.Align.{aligned_at, Aligning}
use Rattle.align.specs.Listed.{listed}
use Rattle.align.proofs.wide.align_row.Given as goal

abbrev pub invariant-loop-k : goal.invariant-loop-k
invariant-loop-k l =
    (l.e ≡ write l.initial.e (l.to * 12) (aligned_at l.exponents l.p l.ids l.n l.all l.t) l.k)
    × (length l.e ≡ length l.initial.e)
    × Aligning (listed l.p l.ids) (row 12 0 l.exponents l.t l.p) (listed l.n l.all) l.i l.k
