-- `refusals::of_limits` meets its contract.
use mathlib.Core.Path.{sym, ◌∙◌}
use Rattle.model.specs.Run.{first_of}
use Rattle.sums.proofs.refusals.of_limits.Goals as goal

pub returns-then-limits_out : goal.returns-then-limits_out
unfolding first_of
returns-then-limits_out c = rw (sym c.limits_out.ensures ∙ c.if-limits_out.true)

pub returns : goal.returns
unfolding first_of
returns c = rw (sym c.limits_out.ensures ∙ c.if-limits_out.false)
