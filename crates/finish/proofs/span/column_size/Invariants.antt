-- `finish::span::column_size` meets its contract: the sum grows at its end.
use mathlib.Core.Path.{◌≡◌}
use Prim.Native.Nat.{◌-◌, ◌*◌, ◌^◌, ◌≤◌}
use Rattle.finish.specs.Spans.{column_size}
use Rattle.finish.proofs.span.column_size.Given as goal

abbrev pub invariant-loop-t : goal.invariant-loop-t
invariant-loop-t l = (l.t ≤ l.n) × (l.sum ≡ column_size l.s l.t l.i) × (l.sum ≤ l.t * 2 ^ 50)

abbrev pub decreases-loop-t : goal.decreases-loop-t
decreases-loop-t l = l.n - l.t
