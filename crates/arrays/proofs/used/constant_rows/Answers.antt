-- `used::constant_rows` meets its contract, by the test of one row.
use Rattle.std.proofs.Common.{rules, tests}
use Rattle.model.specs.Valid.{factorless}
use Rattle.arrays.proofs.used.constant_rows.Goals as goal

pub returns : goal.returns
returns c = c.any_row.ensures factorless 0 (λ r b k. search (rules, tests))
