-- `factors::squeeze_row` meets its contract: each place is written once.
use Rattle.std.proofs.Common.{sym, refl}
use Rattle.whole.specs.Write.{write_none, write_again}
use Rattle.factors.proofs.squeeze_row.Goals as goal

pub loop-i-init : goal.loop-i-init
loop-i-init c = sym (write_none _ _ _)

pub loop-i-preserved : goal.loop-i-preserved
loop-i-preserved c = let l = c.loop-i in write_again _ _ _ l.out l.i _ l.invariant refl
