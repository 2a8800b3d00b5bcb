-- `fold::fold_rows` meets its contract: the core after k rows, by the laws of `folded` and `Bounded`.
use Rattle.std.proofs.Common.{◌^◌, arith, rules}
use Rattle.whole.specs.Tab.{length-tab}
use Rattle.rows.specs.Cells.{small_row}
use Rattle.fold.specs.Folding.{bounded_none, bounded_in, bounded_out, folded_none, folded_in, folded_out, small_mono, under_mono}
use Rattle.fold.proofs.fold_rows.Goals as goal

pub loop-k-init : goal.loop-k-init
loop-k-init g c =
    (bounded_none 0 _ _, λ b h. folded_none c.args.s.now c.args.gone.now b _)

pub loop-k-preserved-then-not-gone : goal.loop-k-preserved-then-not-gone
loop-k-preserved-then-not-gone g c =
    let i = c.loop-k.invariant in
    (bounded_out i.0, λ b h. folded_out c.args.s.now c.args.gone.now b _ c.loop-k.k (i.1 b h) (search rules))

pub shifted-requires : goal.shifted-requires
shifted-requires g c =
    let few = c.requires.rows.0 in
    let k = c.loop-k.k in
    rw c.number_row-row.ensures (
      length-tab 6 _,
      small_mono (c.loop-k.invariant.0.centre (2 ^ 61) c.requires.rows.3) (omega arith),
      small_row (2 ^ 50) c.args.s.now k c.requires.rows.2,
    )

pub grown-requires : goal.grown-requires
grown-requires g c =
    let few = c.requires.rows.0 in
    let k = c.loop-k.k in
    rw c.number_row-row.ensures (
      length-tab 6 _,
      under_mono (c.loop-k.invariant.0.radii (2 ^ 61) c.requires.rows.4) (omega arith),
      small_row (2 ^ 50) c.args.s.now k c.requires.rows.2,
    )

pub loop-k-preserved : goal.loop-k-preserved
loop-k-preserved g c =
    let i = c.loop-k.invariant in
    let k = c.loop-k.k in
    let s = c.args.s.now in
    let moved = rw c.number_row-row.ensures at c.shifted.ensures in
    let wider = rw c.number_row-row.ensures at c.grown.ensures in (
      bounded_in i.0 s c.requires.rows.2 c.even-halved.result k moved wider,
      λ b h. folded_in s c.args.gone.now b _ k (i.1 b h) (search rules) (h k _ (omega arith) c.even-halved.ensures) moved wider,
    )
