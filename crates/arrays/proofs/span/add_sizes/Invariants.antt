-- `span::add_sizes` meets its contract: the sizes of the places passed are added.
use Rattle.std.specs.Prelude.{◌≡◌, ℕ, ◌+◌, ◌≤◌, ◌<◌, get_or, pos, nat_abs}
use Rattle.whole.specs.Write.{write}
use Rattle.arrays.proofs.span.add_sizes.Given as goal

abbrev pub invariant-loop-i : goal.invariant-loop-i
invariant-loop-i l =
    (l.sums ≡ write l.fn.sums 0 (λ i. get_or l.fn.sums i 0 + nat_abs (get_or l.row i (pos 0))) l.i)
    × ((k : ℕ) → k < l.i → nat_abs (get_or l.row k (pos 0)) ≤ 2147483648)
