-- `along::dot` meets its contract: the sum so far is that of the products passed, each at most 2^46.
use Rattle.std.proofs.Common.{◌≡◌, ◌*◌, ◌≤◌, length, nat_abs}
use Rattle.verdicts.specs.Along.{row_dot}
use Rattle.verdicts.proofs.along.dot.Given as goal

abbrev pub invariant-loop-x : goal.invariant-loop-x
invariant-loop-x l =
    (l.sum ≡ row_dot l.a l.xs l.t (length l.yielded)) × (nat_abs (row_dot l.a l.xs l.t (length l.yielded)) ≤ length l.yielded * 70368744177664)
