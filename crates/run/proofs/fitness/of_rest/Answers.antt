-- `fitness::of_rest` meets its contract.
use mathlib.Core.Path.{sym, ◌∙◌}
use Rattle.run.specs.Unfit.{next_bad, totals_bad, rest_good}
use Rattle.run.proofs.fitness.of_rest.Goals as goal

pub returns-then-bad : goal.returns-then-bad
returns-then-bad c = next_bad _ _ c.if-bad.true

pub returns-then-totals_out : goal.returns-then-totals_out
returns-then-totals_out c = totals_bad _ _ c.if-bad.false (sym c.totals_out.ensures ∙ c.if-totals_out.true)

pub returns : goal.returns
returns c = rest_good _ _ c.if-bad.false (sym c.totals_out.ensures ∙ c.if-totals_out.false)
