-- `field` meets its contract.
use mathlib.Core.Path.{◌∙◌, ap}
use mathlib.Core.Bool.{Bool}
use lib.ListN.{length}
use lib.IntN.{pos}
use Rattle.stepping.specs.Work.{work_numbers, work_exponents}
use Rattle.step.specs.Answer.{without_room, cleared_if}
use Rattle.step.specs.Left.{not-used}
use Rattle.run.specs.Taking.{call_refused, call_taken, room_left}
use Rattle.run.proofs.field.Goals as goal

pub taken-requires : goal.taken-requires
taken-requires c =
    let a = c.args in
    let yes = c.in-Ok.is in
    let room = room_left (length a.w.now) (length a.e.now) a.st c.of_call.ensures.value yes in
    (c.of_call.ensures.running yes, room.0, room.1)

pub returns-in-Err : goal.returns-in-Err
returns-in-Err c =
    let a = c.args in
    let r = call_refused (without_room (length a.w.now) (length a.e.now)) a.st c.of_call.ensures.value a.place a.rest.now c.in-Err.is in record {
      value = c.unfit.ensures ∙ r.0;
      numbers = not-used (pos 0) work_numbers a.w.now r.1;
      exponents = not-used 0 work_exponents a.e.now r.1;
    }

pub returns-in-Ok : goal.returns-in-Ok
returns-in-Ok c =
    let a = c.args in
    let r = call_taken (without_room (length a.w.now) (length a.e.now)) a.st c.of_call.ensures.value a.place a.rest.now c.in-Ok.is in record {
      value = c.taken.ensures.value ∙ r.0;
      numbers = c.taken.ensures.numbers ∙ ap (λ (b : Bool). cleared_if b work_numbers (pos 0) a.w.now) r.1;
      exponents = c.taken.ensures.exponents ∙ ap (λ (b : Bool). cleared_if b work_exponents 0 a.e.now) r.1;
    }
