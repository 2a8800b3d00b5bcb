-- `bodies::record::fill_rows` meets its contract: the rows passed hold what was read for them.
use mathlib.Core.Path.{◌≡◌}
use Prim.Native.Nat.{◌≤◌}
use Rattle.bodies.specs.Rows.{write_rows, RowsGiven}
use Rattle.bodies.proofs.record.fill_rows.Given as goal

abbrev pub invariant-loop-t : goal.invariant-loop-t
invariant-loop-t g l =
    (l.t-counter ≤ l.rows) × ((f : _) → RowsGiven (goal.F-post g l.read) l.rows l.n f → l.out ≡ write_rows l.initial.out l.width f l.n l.t-counter)
