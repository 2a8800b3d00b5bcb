-- `image::of_wide_step` meets its contract: the stages one after the other.
use native.Mathlib.Omega.{arith}
use borrow.Author.Rules.{rules}
use mathlib.Core.Path.{◌≡◌, sym, ap, subst, ◌∙◌}
use mathlib.Core.List.{List}
use Prim.Native.Nat.{◌*◌}
use lib.IntN.{ℤ}
use Rattle.rows.specs.Rows.{Small}
use Rattle.zonotope.specs.declared.PolyZonotope.{PolyZonotope}
use Rattle.forms.specs.Numbers.{both_limit, table_limit, both_table, line_table, both_small, lines_small}
use Rattle.forms.specs.RowsTo.{RowsTo, both_to, lines_to}
use Rattle.raw.specs.Accepted.{InSpan}
use Rattle.raw.specs.Unused.{counts_in}
use Rattle.raw.specs.Limits.{centre_small}
use Rattle.image.proofs.Imaged.{imaged}
use Rattle.image.proofs.of_wide_step.Goals as goal
use Rattle.image.proofs.of_wide_step.Goals.{Start, After-both_ways-both, After-lines-lines}

module _ (z : Start) where
  abbrev S : PolyZonotope
  S = z.args.s

  ok : InSpan S
  ok = z.requires.6

  centre_ok : Small 1048576 S.centre
  centre_ok =
      centre_small S ok (record { centre = search rules; exponents = search rules; coefficients = search rules; vectors = search rules })

-- ---- the two tables
module _ (b : After-both_ways-both) where
  both_ok : Small both_limit b.both_ways-both.result
  both_ok = rw b.both_ways-both.ensures (both_small b.args.q.now b.requires.3)

  both-rows : RowsTo (b.args.m * 6) b.both_ways-both.result
  both-rows =
      subst (RowsTo (b.args.m * 6)) (sym b.both_ways-both.ensures)
      (both_to b.args.m b.args.q.now b.requires.5)

module _ (l : After-lines-lines) where
  lines_ok : Small table_limit l.lines-lines.result
  lines_ok =
      rw l.lines-lines.ensures
      (lines_small l.args.a.now l.both_ways-both.result (S (goal.at.After-lines-lines l).Start).centre l.requires.2 (both_ok (goal.at.After-lines-lines l).After-both_ways-both) (centre_ok (goal.at.After-lines-lines l).Start))

  lines_rows : RowsTo l.args.m l.lines-lines.result
  lines_rows =
      subst (RowsTo l.args.m) (sym l.lines-lines.ensures)
      (lines_to l.args.m l.args.a.now l.both_ways-both.result (S (goal.at.After-lines-lines l).Start).centre l.requires.4 (both-rows (goal.at.After-lines-lines l).After-both_ways-both))

  lines_are : l.lines-lines.result ≡ line_table l.args.a.now (both_table l.args.q.now) (S (goal.at.After-lines-lines l).Start).centre
  lines_are =
      l.lines-lines.ensures
      ∙ ap (λ (b : List ℤ). line_table l.args.a.now b (S (goal.at.After-lines-lines l).Start).centre) l.both_ways-both.ensures

pub lines-lines-requires : goal.lines-lines-requires
lines-lines-requires c =
    (c.requires.2, both_ok (goal.at.lines-lines-requires c).After-both_ways-both, centre_ok (goal.at.lines-lines-requires c).Start)

pub all_rows-rows-requires : goal.all_rows-rows-requires
all_rows-rows-requires c =
    (c.requires.8, c.requires.9, c.requires.0, lines_ok (goal.at.all_rows-rows-requires c).After-lines-lines, both_ok (goal.at.all_rows-rows-requires c).After-both_ways-both, lines_rows (goal.at.all_rows-rows-requires c).After-lines-lines, both-rows (goal.at.all_rows-rows-requires c).After-both_ways-both, ok (goal.at.all_rows-rows-requires c).Start)

pub centre-centre-requires : goal.centre-centre-requires
centre-centre-requires c =
    (c.requires.1, c.requires.2, lines_ok (goal.at.centre-centre-requires c).After-lines-lines, ok (goal.at.centre-centre-requires c).Start)

pub generators-generators-requires : goal.generators-generators-requires
generators-generators-requires c =
    (lines_ok (goal.at.generators-generators-requires c).After-lines-lines, lines_rows (goal.at.generators-generators-requires c).After-lines-lines, ok (goal.at.generators-generators-requires c).Start)

pub counts-counts-requires : goal.counts-counts-requires
counts-counts-requires c =
    (c.all_rows-rows.ensures.inside, (counts_in (S (goal.at.counts-counts-requires c).Start) (ok (goal.at.counts-counts-requires c).Start)).3, omega (arith, c.all_rows-rows.auto, c.all_rows-rows.ensures.inside, c.requires.8))

pub carried-carried-requires : goal.carried-carried-requires
carried-carried-requires c =
    (lines_ok (goal.at.carried-carried-requires c).After-lines-lines, c.requires.3, ok (goal.at.carried-carried-requires c).Start, c.requires.7)

pub round_first-requires : goal.round_first-requires
round_first-requires c =
    omega (arith, c.all_rows-rows.auto, c.all_rows-rows.ensures.inside, c.requires.8)

pub shape_of-w : goal.shape_of-w
shape_of-w c =
    omega (arith, c.round_first.auto, c.all_rows-rows.auto)

pub returns : goal.returns
returns c =
    imaged c.args.c.now c.args.a.now c.args.q.now c.lines-lines.result c.both_ways-both.result (S (goal.at.returns c).Start) (ok (goal.at.returns c).Start)
    c.both_ways-both.ensures (lines_are (goal.at.returns c).After-lines-lines) c.args.e.now _ c.args.w.now _ _
    c.all_rows-rows.result c.all_rows-rows.ensures
    (omega (arith, c.all_rows-rows.auto, c.all_rows-rows.ensures.inside, c.requires.8)) c.round_first.ensures
    c.centre-centre.result _ c.centre-centre.ensures c.round_first-2.ensures
    c.generators-generators.result _ c.generators-generators.ensures c.round_first-3.ensures
    c.args.gains.now c.counts-counts.result c.halves-rounded.result c.carried-carried.result c.counts-counts.ensures c.halves-rounded.ensures
    c.carried-carried.ensures
