-- `run` meets its contract.
use mathlib.Core.Path.{sym, ◌∙◌, ap}
use mathlib.Core.Bool.{Bool}
use lib.ListN.{length}
use lib.IntN.{pos}
use Rattle.stepping.specs.Work.{work_numbers, work_exponents}
use Rattle.step.specs.Answer.{cleared_if}
use Rattle.step.specs.Left.{not-used}
use Rattle.run.specs.Taking.{has_room}
use Rattle.run.specs.Whole.{run_short, run-whole}
use Rattle.run.proofs.run.Goals as goal

pub returns-then-no_room : goal.returns-then-no_room
returns-then-no_room c =
    let a = c.args in
    let r = run_short a.input.now (sym c.no_room.ensures ∙ c.if-no_room.true) in record {
      value = c.unfit.ensures ∙ r.0;
      numbers = not-used (pos 0) work_numbers a.w.now r.1;
      exponents = not-used 0 work_exponents a.e.now r.1;
    }

pub whole-requires : goal.whole-requires
whole-requires c =
    let a = c.args in
    has_room (length a.w.now) (length a.e.now) (sym c.no_room.ensures ∙ c.if-no_room.false)

pub returns : goal.returns
returns c =
    let a = c.args in
    let r = run-whole a.input.now (sym c.no_room.ensures ∙ c.if-no_room.false) in record {
      value = c.whole.ensures.value ∙ r.0;
      numbers = c.whole.ensures.numbers ∙ ap (λ (b : Bool). cleared_if b work_numbers (pos 0) a.w.now) r.1;
      exponents = c.whole.ensures.exponents ∙ ap (λ (b : Bool). cleared_if b work_exponents 0 a.e.now) r.1;
    }
