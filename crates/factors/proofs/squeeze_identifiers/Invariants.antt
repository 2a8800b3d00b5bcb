-- `factors::squeeze_identifiers` meets its contract: each place is written once.
use Rattle.std.proofs.Common.{◌≡◌, get_or}
use Rattle.std.specs.Prelude.{replicate}
use Rattle.whole.specs.Write.{write}
use Rattle.factors.proofs.squeeze_identifiers.Given as goal

abbrev pub invariant-loop-i : goal.invariant-loop-i
invariant-loop-i l = l.out ≡ write (replicate 12 0) 0 (λ i. get_or l.identifiers (get_or l.places i 0) 0) l.i
