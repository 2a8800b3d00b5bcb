-- `factors::squeeze_row` meets its contract: each place is written once.
use Rattle.std.proofs.Common.{◌≡◌, ◌+◌, ◌*◌, get_or}
use Rattle.whole.specs.Write.{write}
use Rattle.factors.proofs.squeeze_row.Given as goal

abbrev pub invariant-loop-i : goal.invariant-loop-i
invariant-loop-i l = l.out ≡ write l.initial.out (l.k * 12) (λ i. get_or l.e (l.x * 12 + get_or l.places i 0) 0) l.i
