-- `used::exponents_out` meets its contract, by the test of one row.
use Rattle.std.proofs.Common.{rules, tests}
use Rattle.whole.specs.Tab.{any}
use Rattle.arrays.specs.Rows.{exponent_out}
use Rattle.arrays.proofs.used.exponents_out.Goals as goal

pub returns : goal.returns
returns c = c.any_row.ensures (any exponent_out) 0 (λ r b k. search (rules, tests))
