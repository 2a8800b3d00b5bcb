-- `feeding::machine::feed` meets its contract.
use Rattle.std.specs.Prelude.{◌-◌, length, drop}
use Rattle.std.proofs.Common.{refl, ◌∙◌, arith}
use Rattle.streams.proofs.Ready.{ready_on}
use Rattle.streams.proofs.Underway.{room_left, from-part, ready-here}
use Rattle.streams.proofs.Underway.{underway_begins, underway_ends, underway_goes_on, underway_falls}
use Rattle.feeding.proofs.machine.feed.Goals as goal

pub loop-progress-init : goal.loop-progress-init
loop-progress-init g c =
    let s = c.args in
    let law = c.requires.0.1 in
    (refl, refl, refl, underway_begins law s.ended (length s.out.now) s.m s.rest.now s.out.now c.requires.1, c.requires.2)

pub turn-t-requires : goal.turn-t-requires
turn-t-requires g c =
    let l = c.loop-progress in
    let i = l.invariant in
    let s = c.args in
    let law = c.requires.0.1 in
    let m = g.M.FieldMachine.machine s.log.now in
    let can = ready-here m l.progress (c.is_done.ensures s.log.now) (c.longest.ensures s.log.now) s.ended s.rest.now l.used l.written
    (length l.out) (length s.out.now) c.can_turn.ensures i.0 c.loop-progress-test.true in (
      i.3.reached,
      i.4,
      ready_on m.longest (m.done l.progress) s.ended (length s.out.now - l.written) (drop l.used s.rest.now) can,
      omega (arith, i.0, room_left law s.ended (length s.out.now) s.m s.rest.now s.out.now i.3 can),
      omega (arith, i.1, c.requires.3),
      omega (arith, i.2, c.requires.4),
    )

pub loop-progress-smaller : goal.loop-progress-smaller
loop-progress-smaller g c =
    let l = c.loop-progress in
    let s = c.args in
    let law = c.requires.0.1 in
    let m = g.M.FieldMachine.machine s.log.now in
    let can = ready-here m l.progress (c.is_done.ensures s.log.now) (c.longest.ensures s.log.now) s.ended s.rest.now l.used l.written
    (length l.out) (length s.out.now) c.can_turn.ensures l.invariant.0 c.loop-progress-test.true in
    underway_falls law s.ended (length s.out.now) s.m s.rest.now s.out.now l.invariant.3 can
    (from-part (m.one_turn l.progress) s.rest.now l.used c.turn-t.ensures.0)

pub loop-progress-preserved : goal.loop-progress-preserved
loop-progress-preserved g c =
    let l = c.loop-progress in
    let i = l.invariant in
    let k = c.turn-t.auto in
    let s = c.args in
    let law = c.requires.0.1 in
    let m = g.M.FieldMachine.machine s.log.now in
    let can = ready-here m l.progress (c.is_done.ensures s.log.now) (c.longest.ensures s.log.now) s.ended s.rest.now l.used l.written
    (length l.out) (length s.out.now) c.can_turn.ensures i.0 c.loop-progress-test.true in
    let next = underway_goes_on law s.ended (length s.out.now) s.m s.rest.now s.out.now i.3 can
    (from-part (m.one_turn l.progress) s.rest.now l.used c.turn-t.ensures.0) in
    (k.out ∙ i.0, k.numbers ∙ i.1, k.exponents ∙ i.2, next, c.turn-t.ensures.1)

pub returns : goal.returns
returns g c =
    let l = c.loop-progress in
    let s = c.args in
    let law = c.requires.0.1 in
    let m = g.M.FieldMachine.machine s.log.now in
    let no = ready-here m l.progress (c.is_done.ensures s.log.now) (c.longest.ensures s.log.now) s.ended s.rest.now l.used l.written
    (length l.out) (length s.out.now) c.can_turn.ensures l.invariant.0 c.loop-progress-test.false in
    (underway_ends law s.ended (length s.out.now) s.m s.rest.now s.out.now l.invariant.3 no, l.invariant.4)
