-- `stepped` meets its contract.
use Rattle.std.specs.Prelude.{refl, length}
use Rattle.whole.specs.Tab.{all}
use Rattle.model.specs.Limits.{standard_weights}
use Rattle.model.specs.Step as Step
use Rattle.model.specs.Library.{of_step}
use Rattle.zonotope.specs.Record.{view, given}
use Rattle.image.specs.StepAccepted.{step_of}
use Rattle.image.specs.Gaining.{none_gaining, none_gained}
use Rattle.stepping.specs.Arguments.{step_in}
use Rattle.step.specs.Answer.{without_room}
use Rattle.step.proofs.Order.{step-order, acceptable}
use Rattle.step.proofs.Called.{room_refused, own_refused, call_worked}
use Rattle.step.proofs.stepped.Goals as goal

pub returns-in_err-of_room_and_set : goal.returns-in_err-of_room_and_set
unfolding view
returns-in_err-of_room_and_set c =
    let a = c.args in
    let p = step_of a.m a.n a.c.now a.a.now a.q.now in
    let short = without_room (length a.w.now) (length a.e.now) in
    room_refused short a.s (of_step p a.s.dimension) (Step.step standard_weights p (view a.s)) (step-order short p (given a.s)) a.w.now a.e.now
    c.in_err-of_room_and_set.ensures.value c.from_residual.ensures.1

pub returns-in_err-of_step : goal.returns-in_err-of_step
unfolding all view
returns-in_err-of_step c =
    let a = c.args in
    let p = step_of a.m a.n a.c.now a.a.now a.q.now in
    let short = without_room (length a.w.now) (length a.e.now) in
    own_refused short a.s (of_step p a.s.dimension) (Step.step standard_weights p (view a.s)) (step-order short p (given a.s)) a.w.now a.e.now
    c.in_ok-of_room_and_set.ensures.value refl c.in_err-of_step.ensures c.from_residual-in_err-of_step.ensures.1

pub worked_out-requires : goal.worked_out-requires
worked_out-requires c =
    let a = c.args in
    let p = step_of a.m a.n a.c.now a.a.now a.q.now in
    let room = c.in_ok-of_room_and_set.ensures in
    let k = acceptable a.s (of_step p a.s.dimension) (length a.w.now) (length a.e.now) room.value (room.sized refl) c.in_ok-of_step.ensures in
    (k.set, step_in p a.s.dimension k.own, none_gaining a.m, k.numbers_room, k.exponents_room)

pub returns : goal.returns
unfolding view
returns c =
    let a = c.args in
    let p = step_of a.m a.n a.c.now a.a.now a.q.now in
    let short = without_room (length a.w.now) (length a.e.now) in
    call_worked short a.s (of_step p a.s.dimension) (Step.step standard_weights p (view a.s)) (step-order short p (given a.s)) a.w.now a.e.now
    c.in_ok-of_room_and_set.ensures.value c.in_ok-of_step.ensures _ (none_gained standard_weights p (view a.s)) c.worked_out.ensures
