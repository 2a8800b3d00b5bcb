-- `ranged_stepped` meets its contract.
use Rattle.std.specs.Prelude.{List, ℕ, refl, length, get_or}
use Rattle.std.proofs.Common.{ap, ◌∙◌}
use Rattle.whole.specs.Tab.{all}
use Rattle.model.specs.Limits.{standard_weights}
use Rattle.model.specs.Ranged.{gaining_step, ranged_step}
use Rattle.model.specs.Library.{of_ranged_step}
use Rattle.zonotope.specs.Record.{view, given}
use Rattle.image.specs.StepAccepted.{step_of}
use Rattle.image.specs.Gaining.{widths-gained}
use Rattle.widths.specs.Widths.{widths_of}
use Rattle.stepping.specs.Arguments.{ranged_in}
use Rattle.stepping.specs.Held.{for_image}
use Rattle.step.specs.Answer.{without_room}
use Rattle.step.proofs.Order.{ranged-order, acceptable}
use Rattle.step.proofs.Called.{room_refused, own_refused, call_worked}
use Rattle.step.proofs.ranged_stepped.Goals as goal

pub returns-in_err-of_room_and_set : goal.returns-in_err-of_room_and_set
unfolding view
returns-in_err-of_room_and_set c =
    let a = c.args in
    let p = step_of a.m a.n a.c.now a.a.now a.q.now in
    let d = widths_of a.da.now a.dq.now in
    let short = without_room (length a.w.now) (length a.e.now) in
    room_refused short a.s (of_ranged_step p d a.s.dimension) (ranged_step standard_weights p d (view a.s)) (ranged-order short p (given a.s) d)
    a.w.now a.e.now c.in_err-of_room_and_set.ensures.value c.from_residual.ensures.1

pub returns-in_err-of_ranged_step : goal.returns-in_err-of_ranged_step
unfolding all view
returns-in_err-of_ranged_step c =
    let a = c.args in
    let p = step_of a.m a.n a.c.now a.a.now a.q.now in
    let d = widths_of a.da.now a.dq.now in
    let short = without_room (length a.w.now) (length a.e.now) in
    own_refused short a.s (of_ranged_step p d a.s.dimension) (ranged_step standard_weights p d (view a.s)) (ranged-order short p (given a.s) d)
    a.w.now a.e.now c.in_ok-of_room_and_set.ensures.value refl c.in_err-of_ranged_step.ensures
    c.from_residual-in_err-of_ranged_step.ensures.1

pub gains-gains-requires : goal.gains-gains-requires
gains-gains-requires c =
    let a = c.args in
    let p = step_of a.m a.n a.c.now a.a.now a.q.now in
    let d = widths_of a.da.now a.dq.now in
    let room = c.in_ok-of_room_and_set.ensures in
    let k = acceptable a.s (of_ranged_step p d a.s.dimension) (length a.w.now) (length a.e.now) room.value (room.sized refl)
    c.in_ok-of_ranged_step.ensures in
    ((ranged_in p d a.s.dimension k.own).1, for_image k.set)

pub worked_out-requires : goal.worked_out-requires
worked_out-requires c =
    let a = c.args in
    let p = step_of a.m a.n a.c.now a.a.now a.q.now in
    let d = widths_of a.da.now a.dq.now in
    let room = c.in_ok-of_room_and_set.ensures in
    let k = acceptable a.s (of_ranged_step p d a.s.dimension) (length a.w.now) (length a.e.now) room.value (room.sized refl)
    c.in_ok-of_ranged_step.ensures in
    (k.set, (ranged_in p d a.s.dimension k.own).0, c.gains-gains.ensures.1, k.numbers_room, k.exponents_room)

pub returns : goal.returns
unfolding view
returns c =
    let a = c.args in
    let p = step_of a.m a.n a.c.now a.a.now a.q.now in
    let d = widths_of a.da.now a.dq.now in
    let short = without_room (length a.w.now) (length a.e.now) in
    let room = c.in_ok-of_room_and_set.ensures in
    let k = acceptable a.s (of_ranged_step p d a.s.dimension) (length a.w.now) (length a.e.now) room.value (room.sized refl)
    c.in_ok-of_ranged_step.ensures in
    call_worked short a.s (of_ranged_step p d a.s.dimension) (ranged_step standard_weights p d (view a.s)) (ranged-order short p (given a.s) d)
    a.w.now a.e.now room.value c.in_ok-of_ranged_step.ensures _
    (ap (λ (v : List ℕ). gaining_step standard_weights (λ (j : ℕ). get_or v j 0) p (view a.s)) c.gains-gains.ensures.0
    ∙ widths-gained standard_weights p (view a.s) d (ranged_in p d a.s.dimension k.own).1.rows)
    c.worked_out.ensures
