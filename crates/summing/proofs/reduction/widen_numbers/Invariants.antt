-- `reduction::widen_numbers` meets its contract.
use mathlib.Core.Path.{◌≡◌}
use lib.ListN.{get_or}
use lib.IntN.{pos}
use Rattle.whole.specs.Write.{write}
use Rattle.summing.proofs.reduction.widen_numbers.Given as goal

abbrev pub invariant-loop-i : goal.invariant-loop-i
invariant-loop-i l = l.out ≡ write l.initial.out 0 (λ k. get_or l.numbers k (pos 0)) l.i
