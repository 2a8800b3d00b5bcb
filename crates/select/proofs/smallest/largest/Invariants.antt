-- `smallest::largest` meets its contract: each size passed is at most the largest so far.
use Rattle.std.proofs.Common.{ℕ, ◌*◌, ◌^◌, ◌<◌, ◌≤◌}
use Rattle.select.specs.Bar.{size_at}
use Rattle.select.proofs.smallest.largest.Given as goal

abbrev pub invariant-loop-size : goal.invariant-loop-size
invariant-loop-size l = ((i : ℕ) → i < l.size-index → size_at l.z i ≤ l.most) × (l.most ≤ 6000 * 2 ^ 50)
