-- `box_of` meets its contract.
use Rattle.std.specs.Prelude.{refl}
use Rattle.zonotope.specs.Record.{view}
use Rattle.zonotope.specs.Counts.{in_limits}
use Rattle.zonotope.specs.Valid.{valid}
use Rattle.zonotope.specs.Answer.{nothing_found, passed_on}
use Rattle.bounds.specs.Answer.{bounds_of, boxed}
use Rattle.bounds.proofs.box_of.Goals as goal

pub returns-in_err-examine : goal.returns-in_err-examine
unfolding bounds_of
returns-in_err-examine c = passed_on (λ o. boxed o (view c.args.s)) (λ n. refl) _ c.in_err-examine.ensures.value c.from_residual.ensures.1

pub ends_of-requires : goal.ends_of-requires
ends_of-requires c = in_limits _ (valid _ (nothing_found _ c.in_ok-examine.ensures.value)).counts

pub returns : goal.returns
unfolding bounds_of view
returns c = rw (nothing_found _ c.in_ok-examine.ensures.value, c.ends_of.ensures.0, c.ends_of.ensures.1)
