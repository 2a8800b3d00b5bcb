-- `select::marks::any_high` meets its contract: none of the first terms has such an exponent.
use Rattle.std.proofs.Common.{◌≡◌, ℕ, ◌<◌, get_or, false}
use Rattle.rows.specs.Rows.{exponent_row}
use Rattle.select.specs.Stage.{high}
use Rattle.select.proofs.marks.any_high.Given as goal

abbrev pub invariant-loop-x : goal.invariant-loop-x
invariant-loop-x l = (i : ℕ) → i < l.x-index → high (exponent_row l.e (get_or l.heads i 0)) ≡ false
