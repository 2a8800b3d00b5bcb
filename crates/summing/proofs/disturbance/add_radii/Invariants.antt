-- `disturbance::add_radii` meets its contract.
use mathlib.Core.Path.{◌≡◌}
use Prim.Native.Nat.{◌+◌}
use lib.ListN.{get_or}
use Rattle.whole.specs.Write.{write}
use Rattle.summing.proofs.disturbance.add_radii.Given as goal

abbrev pub invariant-loop-i : goal.invariant-loop-i
invariant-loop-i l = l.out ≡ write l.own 0 (λ k. get_or l.own k 0 + get_or l.radii k 0) l.i
