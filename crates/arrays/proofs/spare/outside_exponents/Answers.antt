-- `spare::outside_exponents` meets its contract, by the test of a run.
use Rattle.std.specs.Prelude.{eqb}
use Rattle.std.proofs.Common.{rules, tests}
use Rattle.arrays.proofs.spare.outside_exponents.Goals as goal

pub returns : goal.returns
returns c = c.any_outside.ensures (λ x. eqb x 0) 0 (λ r b k. search (rules, tests))
