-- `align::wide::widen_rows` meets its contract.
use mathlib.Core.Path.{◌≡◌}
use Prim.Native.Nat.{◌*◌}
use lib.IntN.{pos}
use lib.ListN.{get_or}
use Rattle.whole.specs.Write.{write}
use Rattle.align.proofs.wide.widen_rows.Given as goal

abbrev pub invariant-loop-k : goal.invariant-loop-k
invariant-loop-k l = l.c ≡ write l.initial.c (l.to * 6) (λ j. get_or l.numbers j (pos 0)) l.k
