-- `smallest::sizes` meets its contract: one size more is known in each turn.
use Rattle.std.proofs.Common.{◌^◌}
use Rattle.whole.specs.Tab.{length-tab}
use Rattle.rows.specs.Cells.{small_row}
use Rattle.select.proofs.smallest.sizes.Goals as goal

pub row_size-requires : goal.row_size-requires
row_size-requires c =
    rw c.number_row.ensures (length-tab 6 _, small_row (2 ^ 50) c.args.s.now c.loop-k.k c.requires.1, c.requires.2)
