-- `parts::totals` meets its contract: each place is written once.
use Rattle.std.specs.Prelude.{◌≡◌, ℕ, ◌+◌, ◌≤◌, ◌<◌, get_or, replicate}
use Rattle.whole.specs.Write.{write}
use Rattle.arrays.specs.Rows.{most_radius}
use Rattle.zonotope.proofs.parts.totals.Given as goal

abbrev pub invariant-loop-i : goal.invariant-loop-i
invariant-loop-i l =
    let r = l.r in
    let f : ℕ → ℕ = λ k. get_or r.carried k 0 + get_or r.rounded k 0 + get_or r.folded k 0 + get_or r.given k 0 in
    (l.total-items ≡ write (replicate 6 0) 0 f l.i) × ((k : ℕ) → k < l.i → f k ≤ most_radius)
