-- `factors::list_used` meets its contract: of j places those that are marked are listed.
use Rattle.std.proofs.Common.{◌≡◌, ◌≤◌, take}
use Rattle.fold.specs.Chosen.{chosen}
use Rattle.fold.specs.Marks.{at}
use Rattle.factors.proofs.list_used.Given as goal

abbrev pub invariant-loop-j : goal.invariant-loop-j
invariant-loop-j l = (l.m ≤ l.j) × (take l.m l.places ≡ chosen (at l.used) l.j)
