-- `image::rounding::add_rows` meets its contract: row after row is added.
use Rattle.image.specs.Counting.{Adding}
use Rattle.image.proofs.rounding.add_rows.Given as goal

abbrev pub invariant-loop-t : goal.invariant-loop-t
invariant-loop-t l = Adding l.initial.out l.w l.rows l.t l.out
