-- `factors::list_used` meets its contract: of j places those that are marked are listed.
use Rattle.std.proofs.Common.{sym, arith, rules}
use Rattle.fold.specs.Chosen.{chosen_none}
use Rattle.factors.specs.Squeeze.{listed_out, listed_in}
use Rattle.factors.proofs.list_used.Goals as goal

pub loop-j-init : goal.loop-j-init
loop-j-init c = (omega arith, sym (chosen_none _))

pub loop-j-preserved-then-not-used : goal.loop-j-preserved-then-not-used
loop-j-preserved-then-not-used c =
    let l = c.loop-j in
    (omega arith, listed_out _ l.places l.m l.j l.invariant.1 (search rules))

pub loop-j-preserved : goal.loop-j-preserved
loop-j-preserved c =
    let l = c.loop-j in
    (omega arith, listed_in _ l.places l.m l.j l.invariant.1 (search rules) (omega arith))
