-- `factors::occurs_at` meets its contract, by the laws of a test over a table.
use Rattle.std.proofs.Common.{ℕ, ◌+◌, ◌*◌, ◌<◌, ◌≤◌, get_or}
use Rattle.factors.proofs.occurs_at.Given as goal

abbrev pub invariant-loop-x : goal.invariant-loop-x
invariant-loop-x l = (i : ℕ) → i < l.x-index → get_or l.e (get_or l.heads i 0 * 12 + l.j) 0 ≤ 0
