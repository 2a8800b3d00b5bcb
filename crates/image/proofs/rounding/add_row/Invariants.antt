-- `image::rounding::add_row` meets its contract: each counter is read, grown and written in turn.
use Rattle.std.proofs.Common.{ℕ, ◌+◌, get_or}
use Rattle.whole.specs.Round.{inexact}
use Rattle.forms.specs.Tables.{row_of}
use Rattle.forms.specs.Filling.{Writing}
use Rattle.image.proofs.rounding.add_row.Given as goal

abbrev pub invariant-loop-i : goal.invariant-loop-i
invariant-loop-i l = Writing l.initial.out 0 (λ (y : ℕ). get_or l.initial.out y 0 + inexact (row_of l.w l.t y)) 6 l.i l.out
