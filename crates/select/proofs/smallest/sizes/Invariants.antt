-- `smallest::sizes` meets its contract: one size more is known in each turn.
use Rattle.std.proofs.Common.{◌≡◌, ℕ, ◌*◌, ◌^◌, ◌<◌, ◌≤◌}
use Rattle.model.specs.Finish.{size}
use Rattle.rows.specs.Rows.{number_row}
use Rattle.select.specs.Bar.{size_at}
use Rattle.select.proofs.smallest.sizes.Given as goal

abbrev pub invariant-loop-k : goal.invariant-loop-k
invariant-loop-k l =
    ((i : ℕ) → i < l.k → size_at l.z i ≡ size l.weights (number_row l.s i)) × ((i : ℕ) → i < l.k → size_at l.z i ≤ 6000 * 2 ^ 50)
