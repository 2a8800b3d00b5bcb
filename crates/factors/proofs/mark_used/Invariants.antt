-- `factors::mark_used` meets its contract: each place is written once.
use Rattle.std.proofs.Common.{◌≡◌, List, ℤ, length, false}
use Rattle.std.specs.Prelude.{replicate}
use Rattle.whole.specs.Write.{write}
use Rattle.model.specs.Valid.{occurs}
use Rattle.rows.specs.Rows.{terms}
use Rattle.factors.proofs.mark_used.Given as goal

abbrev pub invariant-loop-j : goal.invariant-loop-j
invariant-loop-j l = (s : List ℤ) → l.used-items ≡ write (replicate 12 false) 0 (occurs (terms l.e l.heads s (length l.heads))) l.j
