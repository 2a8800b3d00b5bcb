-- `select::marks::mark_high` meets its contract: one place more is marked in each turn.
use Rattle.std.proofs.Common.{◌≡◌, ℕ, ◌<◌, get_or}
use Rattle.rows.specs.Rows.{exponent_row}
use Rattle.fold.specs.Marks.{at}
use Rattle.select.specs.Stage.{high}
use Rattle.select.proofs.marks.mark_high.Given as goal

abbrev pub invariant-loop-k : goal.invariant-loop-k
invariant-loop-k l = (i : ℕ) → i < l.k → at l.gone i ≡ high (exponent_row l.e (get_or l.heads i 0))
