-- `taking::taken` meets its contract.
use mathlib.Core.Path.{ap, ◌∙◌}
use native.Mathlib.Omega.{arith}
use lib.IntN.{pos}
use Rattle.model.specs.Run.{first_field}
use Rattle.stepping.specs.Work.{work_numbers, work_exponents}
use Rattle.step.specs.Answer.{cleared_if}
use Rattle.run.specs.Taking.{taken-from, worked-from}
use Rattle.run.proofs.Cleared.{given_back}
use Rattle.run.proofs.taking.taken.Goals as goal

pub returns : goal.returns
returns c =
    let a = c.args in
    let f = first_field a.rest.now in
    let p = c.advance-a.ensures.value in
    let kept = c.advance-a.auto in
    let used = worked-from a.place a.st f p in record {
      value = taken-from a.place a.st f p;
      numbers = given_back c.advance-a.result.worked c.advance-a.ensures.numbers (omega (arith, kept)) c.clear_used.ensures.numbers
          ∙ ap (λ b. cleared_if b work_numbers (pos 0) a.w.now) used;
      exponents = given_back c.advance-a.result.worked c.advance-a.ensures.exponents (omega (arith, kept)) c.clear_used.ensures.exponents
          ∙ ap (λ b. cleared_if b work_exponents 0 a.e.now) used;
    }
