-- `sum::finish_sum` meets its contract.
use native.Mathlib.Omega.{arith}
use Rattle.summing.proofs.sum.finish_sum.Goals as goal

pub finish_rows-requires : goal.finish_rows-requires
finish_rows-requires c = let s = c in (
  rw c.first_twelve-identifiers.ensures s.requires,
  omega arith,
  omega arith,
)

pub returns : goal.returns
returns c =
    let f = c in
    rw f.first_twelve-identifiers.ensures at f.finish_rows.ensures
