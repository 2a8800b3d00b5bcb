-- `span::column_sizes` meets its contract: the sums so far are those of the rows passed.
use Rattle.std.specs.Prelude.{◌≡◌, ℕ, ◌+◌, ◌*◌, ◌≤◌, get_or, pos, nat_abs}
use Rattle.arrays.specs.Columns.{columns}
use Rattle.arrays.proofs.span.column_sizes.Given as goal

abbrev pub invariant-loop-t : goal.invariant-loop-t
invariant-loop-t l =
    (l.sums ≡ columns 0 ◌+◌ (λ u i. nat_abs (get_or l.xs (u * 6 + i) (pos 0))) 6 l.t) × ((i : ℕ) → get_or l.sums i 0 ≤ l.t * 2147483648)
