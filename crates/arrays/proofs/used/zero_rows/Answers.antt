-- `used::zero_rows` meets its contract, by the test of one row.
use Rattle.std.proofs.Common.{rules, tests}
use Rattle.std.specs.Prelude.{pos}
use Rattle.model.specs.Valid.{zeros}
use Rattle.arrays.proofs.used.zero_rows.Goals as goal

pub returns : goal.returns
returns c = c.any_row.ensures zeros (pos 0) (λ r b k. search (rules, tests))
