-- `finish::record::narrow_part` meets its contract: each place is written once.
use Rattle.std.proofs.Common.{◌≡◌, get_or}
use Rattle.whole.specs.Write.{write}
use Rattle.finish.proofs.record.narrow_part.Given as goal

abbrev pub invariant-loop-i : goal.invariant-loop-i
invariant-loop-i l = l.out ≡ write l.initial.out 0 (λ j. get_or l.x-items j 0) l.i
