-- `spare::outside_numbers` meets its contract, by the test of a run.
use Rattle.std.specs.Prelude.{pos}
use Rattle.model.specs.Valid.{is_zero}
use Rattle.std.proofs.Common.{rules, tests}
use Rattle.arrays.proofs.spare.outside_numbers.Goals as goal

pub returns : goal.returns
returns c = c.any_outside.ensures is_zero (pos 0) (λ r b k. search (rules, tests))
