-- `fold::row_size` meets its contract: the sum grows at its end.
use Rattle.std.proofs.Common.{◌≡◌, ◌*◌, ◌^◌, ◌≤◌, length, get_or, pos, nat_abs}
use Rattle.whole.specs.Sum.{upto_ℕ}
use Rattle.fold.proofs.row_size.Given as goal

abbrev pub invariant-loop-weight : goal.invariant-loop-weight
invariant-loop-weight l =
    (l.sum ≡ upto_ℕ (λ i. get_or l.weights i 0 * nat_abs (get_or l.row i (pos 0))) (length l.yielded)) × (l.sum ≤ length l.yielded * (1000 * 2 ^ 50))
