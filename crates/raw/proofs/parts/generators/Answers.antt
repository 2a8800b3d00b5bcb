-- `raw::parts::generators` meets its contract: the rows are written into zeros.
use Rattle.std.proofs.Common.{rules, arith, refl}
use Rattle.whole.specs.Tab.{all}
use Rattle.rows.specs.Rows.{Small}
use Rattle.raw.specs.Accepted.{RowsSized}
use Rattle.raw.specs.Unused.{counts_in}
use Rattle.raw.specs.Limits.{vectors_small}
use Rattle.raw.specs.Parts.{raw_generators}
use Rattle.raw.proofs.parts.generators.Goals as goal
use Rattle.raw.proofs.parts.generators.Goals.{Start}

module _ (z : Start) where
  sized : RowsSized z.args.s
  sized = record { centre = search rules; exponents = search rules; coefficients = search rules; vectors = search rules }

  vectors_ok : Small 1048576 z.args.s.vectors
  vectors_ok = vectors_small z.args.s z.requires.2 sized

pub linear_numbers-requires : goal.linear_numbers-requires
linear_numbers-requires c =
    let z = (goal.at.linear_numbers-requires c).Start in
    let b = counts_in c.args.s c.requires.2 in
    (omega arith, omega arith, omega (arith, (sized z).vectors), c.requires.0, vectors_ok z, c.requires.1)

pub returns : goal.returns
unfolding all
returns c =
    raw_generators c.args.lines.now c.args.s c.requires.2 (vectors_ok (goal.at.returns c).Start) c.requires.0 _ _ refl tt
    c.linear_numbers.ensures
