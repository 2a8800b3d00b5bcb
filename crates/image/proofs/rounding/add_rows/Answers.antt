-- `image::rounding::add_rows` meets its contract: row after row is added.
use borrow.Author.Rules.{rules}
use native.Mathlib.Omega.{arith}
use Rattle.image.specs.Counting.{adding_begins, adding_again, adding_ends, grown-below}
use Rattle.image.proofs.rounding.add_rows.Goals as goal

pub loop-t-init : goal.loop-t-init
loop-t-init c = adding_begins _ _ c.args.rows c.told-out

pub add_row-requires : goal.add_row-requires
add_row-requires c =
    let g = c.args in
    let grew = c.loop-t.invariant.counted in (
      omega (arith, c.requires.0),
      search rules,
      grown-below g.out.now g.w.now c.loop-t.t _ grew 1000 2000 c.requires.2 (omega (arith, c.requires.0, c.loop-t.invariant.inside)),
    )

pub loop-t-preserved : goal.loop-t-preserved
loop-t-preserved c =
    rw c.add_row.ensures
    (adding_again _ _ c.args.rows c.loop-t.t c.loop-t.out c.loop-t.invariant c.loop-t-test.true)

pub returns : goal.returns
returns c = adding_ends _ _ _ c.loop-t.t c.loop-t.out c.loop-t.invariant c.loop-t-test.false
