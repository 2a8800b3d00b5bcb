-- `smallest::mark_below` meets its contract, by the laws of `Marking`.
use Rattle.std.proofs.Common.{sym, ◌∙◌, arith}
use borrow.Author.Tests.{ltb-true, ltb-false}
use Rattle.select.specs.Bar.{marking_start, marking_low, marking_high, marking_done}
use Rattle.select.proofs.smallest.mark_below.Goals as goal

pub loop-k-init : goal.loop-k-init
loop-k-init c = marking_start _ _ _ _ _

pub loop-k-preserved-then-gone : goal.loop-k-preserved-then-gone
loop-k-preserved-then-gone c =
    let l = c.loop-k in
    rw c.if-gone.true
    (marking_low _ _ _ _ l.invariant (omega arith) (omega arith) (ltb-true _ _ (sym c.is_below.ensures ∙ c.if-gone.true)))

pub loop-k-preserved : goal.loop-k-preserved
loop-k-preserved c =
    let l = c.loop-k in
    rw (c.if-gone.false, c.quota_after-rest.ensures)
    (marking_high _ _ _ _ l.invariant (omega arith) (omega arith) (ltb-false _ _ (sym c.is_below.ensures ∙ c.if-gone.false)))

pub returns : goal.returns
returns c = marking_done _ _ _ _ c.loop-k.invariant (omega arith)
