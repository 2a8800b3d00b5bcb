-- `smallest::mark_below` meets its contract, by the laws of `Marking`.
use Rattle.std.proofs.Common.{length}
use Rattle.select.specs.Bar.{Marking}
use Rattle.select.proofs.smallest.mark_below.Given as goal

abbrev pub invariant-loop-k : goal.invariant-loop-k
invariant-loop-k l = Marking l.z l.height l.quota (length l.initial.gone) l.gone l.rest l.k
