-- `rewrite::run` meets its contract.
use Rattle.std.proofs.Common.{ℕ, sym, ◌∙◌}
use lib.ListN.{length-replicate}
use Rattle.rewrite.proofs.Flowing.{starts, not-ended, not_unread, not_failed, some_allowed, streamed}
use Rattle.rewrite.proofs.run.Goals as goal

pub loop-flow-init : goal.loop-flow-init
loop-flow-init c =
    (length-replicate {A = ℕ} 65536 0, length-replicate {A = ℕ} 65564 0, starts c.begin-flow.ensures)

pub slice_bounds-turn-end : goal.slice_bounds-turn-end
slice_bounds-turn-end c = sym c.loop-flow.invariant.0

pub slice_bounds-turn-end-in-loop-flow : goal.slice_bounds-turn-end-in-loop-flow
slice_bounds-turn-end-in-loop-flow c = sym c.loop-flow.invariant.1

pub turn-flow-requires : goal.turn-flow-requires
turn-flow-requires c =
    let f = c.loop-flow.flow in
    let i = c.loop-flow.invariant in
    let off = c.loop-flow-test.true in
    (i.2, not-ended f off, some_allowed f off, i.0, i.1, not_unread f off, not_failed f off)

pub loop-flow-smaller : goal.loop-flow-smaller
loop-flow-smaller c = c.turn-flow.ensures.fewer

pub loop-flow-preserved : goal.loop-flow-preserved
loop-flow-preserved c =
    let i = c.loop-flow.invariant in
    (c.turn-flow.auto.buf ∙ i.0, c.turn-flow.auto.out ∙ i.1, c.turn-flow.ensures.along)

pub returns : goal.returns
returns c = streamed c.loop-flow.flow c.loop-flow.invariant.2 c.loop-flow-test.false
