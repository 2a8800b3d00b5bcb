-- `printing::answer_line` meets its contract: the line of each case.
use mathlib.Core.Logic.{inl, inr}
use mathlib.Core.Path.{sym}
use Rattle.printing.specs.Line.{case_line, line_put, nothing_put}
use Rattle.printing.proofs.answer_line.Goals as goal

pub returns-in-Inside : goal.returns-in-Inside
unfolding case_line
returns-in-Inside c = line_put _ c.args.a c.in-Inside.is c.box_line.ensures

pub returns-in-Safe : goal.returns-in-Safe
unfolding case_line
returns-in-Safe c = line_put _ c.args.a c.in-Safe.is c.verdict_line.ensures

pub returns-in-Unknown : goal.returns-in-Unknown
unfolding case_line
returns-in-Unknown c = line_put _ c.args.a c.in-Unknown.is c.verdict_line-in-Unknown.ensures

pub returns-in-Refused : goal.returns-in-Refused
unfolding case_line
returns-in-Refused c = line_put _ c.args.a c.in-Refused.is (rw (sym c.number.ensures) c.refusal_line.ensures)

pub returns-in-Skipped : goal.returns-in-Skipped
unfolding case_line
returns-in-Skipped c = elim c.in-Skipped.is [
  | inl e ↦ line_put _ c.args.a e (nothing_put _ _)
  | inr e ↦ line_put _ c.args.a e.1 (nothing_put _ _)
]
