-- `columns::add_row` meets its contract: both ends of the coordinates passed are moved.
use Rattle.std.specs.Prelude.{◌≡◌, true, false, ℕ, ◌≤◌, ◌<◌, nat_abs}
use Rattle.whole.specs.Write.{write}
use Rattle.model.specs.Set.{at}
use Rattle.verdicts.specs.Ends.{added}
use Rattle.verdicts.proofs.columns.add_row.Given as goal

abbrev pub invariant-loop-i : goal.invariant-loop-i
invariant-loop-i l =
    (l.low ≡ write l.fn.low 0 (added false l.even l.row l.fn.low) l.i) × (l.high ≡ write l.fn.high 0 (added true l.even l.row l.fn.high) l.i)
    × ((k : ℕ) → k < l.i → nat_abs (at l.row k) ≤ 2147483648)
