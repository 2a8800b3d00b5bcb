-- `fold::grown` meets its contract: j numbers are added.
use Rattle.std.proofs.Common.{◌≡◌, get_or, pos, ◌+◌}
use Rattle.whole.specs.Write.{write}
use Rattle.model.specs.Finish.{growth}
use Rattle.fold.proofs.grown.Given as goal

abbrev pub invariant-loop-j : goal.invariant-loop-j
invariant-loop-j l = l.r-items ≡ write l.fn.radii 0 (λ i. get_or l.fn.radii i 0 + growth l.even (get_or l.row i (pos 0))) l.j
