-- `columns::reach` meets its contract: the coordinates passed have their ends.
use Rattle.std.specs.Prelude.{◌≡◌, true, false, ◌+◌, ◌+ℤ◌, get_or}
use Rattle.model.specs.Set.{at}
use Rattle.verdicts.specs.Six.{six}
use Rattle.verdicts.specs.Ends.{reached}
use Rattle.verdicts.proofs.columns.reach.Given as goal

abbrev pub invariant-loop-i : goal.invariant-loop-i
invariant-loop-i l =
    (l.ends.low ≡ six l.i (λ k. reached false (at l.s.centre k +ℤ at l.terms.low k) (get_or l.sizes k 0 + get_or l.radii k 0)))
    × (l.ends.high ≡ six l.i (λ k. reached true (at l.s.centre k +ℤ at l.terms.high k) (get_or l.sizes k 0 + get_or l.radii k 0)))
