-- `image::rounding::counts` meets its contract: the three counts are added to counters that start at 0.
use borrow.Author.Rules.{rules}
use native.Mathlib.Omega.{arith}
use lib.ListN.{replicate}
use Rattle.image.specs.Remainder.{zeros-below}
use Rattle.image.specs.Counting.{grown-below, counts-from}
use Rattle.image.proofs.rounding.counts.Goals as goal

pub add_rows-requires : goal.add_rows-requires
add_rows-requires c = (search rules, search rules, zeros-below 1000 6)

pub add_rows-requires-2 : goal.add_rows-requires-2
add_rows-requires-2 c =
    let g = c.args in
    let one = c.add_rows.ensures in (
      search rules,
      search rules,
      grown-below (replicate 6 0) g.centre.now 1 _ one 0 1000 (zeros-below 0 6) (omega arith),
    )

pub add_rows-requires-3 : goal.add_rows-requires-3
add_rows-requires-3 c =
    let two = c.add_rows-2.ensures in
    let first = c.add_rows in
    let g = c.args in
    let small = grown-below (replicate 6 0) g.centre.now 1 _ first.ensures 0 1 (zeros-below 0 6) (omega arith) in (
      search rules,
      search rules,
      grown-below first.new.out g.w.now g.rows _ two 1 1000 small (omega arith),
    )

pub returns : goal.returns
returns c =
    let three = c.add_rows-3.ensures in
    let two = c.add_rows-2.ensures in
    let one = c.add_rows.ensures in
    counts-from _ _ _ _ _ _ _ _ one two three
