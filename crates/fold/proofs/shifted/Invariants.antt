-- `fold::shifted` meets its contract: j numbers are added.
use Rattle.std.proofs.Common.{◌≡◌, get_or, pos, ◌+ℤ◌}
use Rattle.whole.specs.Write.{write}
use Rattle.model.specs.Finish.{shift}
use Rattle.fold.proofs.shifted.Given as goal

abbrev pub invariant-loop-j : goal.invariant-loop-j
invariant-loop-j l = l.c-items ≡ write l.fn.centre 0 (λ i. get_or l.fn.centre i (pos 0) +ℤ shift l.even (get_or l.row i (pos 0))) l.j
