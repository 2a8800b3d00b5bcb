-- `finish::record::narrow_numbers` meets its contract: i numbers are written.
use Rattle.std.proofs.Common.{◌≡◌, get_or, pos}
use Rattle.whole.specs.Write.{write}
use Rattle.finish.proofs.record.narrow_numbers.Given as goal

abbrev pub invariant-loop-i : goal.invariant-loop-i
invariant-loop-i l = l.out ≡ write l.initial.out 0 (λ j. get_or l.s j (pos 0)) l.i
