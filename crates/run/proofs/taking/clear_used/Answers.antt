-- `taking::clear_used` meets its contract.
use lib.IntN.{pos}
use Rattle.stepping.specs.Work.{work_numbers, work_exponents}
use Rattle.step.specs.Left.{now_cleared}
use Rattle.run.proofs.taking.clear_used.Goals as goal

pub returns-then-worked-clause-numbers : goal.returns-then-worked-clause-numbers
returns-then-worked-clause-numbers c = now_cleared (pos 0) work_numbers c.args.w.now c.if-worked.true c.clear_numbers.ensures

pub returns-then-worked-clause-exponents : goal.returns-then-worked-clause-exponents
returns-then-worked-clause-exponents c = now_cleared 0 work_exponents c.args.e.now c.if-worked.true c.clear_exponents.ensures
