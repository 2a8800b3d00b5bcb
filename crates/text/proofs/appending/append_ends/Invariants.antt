-- `text::appending::append_ends` meets its contract: after i turns the ends of the first i coordinates stand from the place on.
use Rattle.std.specs.Prelude.{◌*◌, length}
use Rattle.model.specs.Text.{ends}
use Rattle.text.specs.Appended.{Appended}
use Rattle.text.specs.Pieces.{firsts, spaced}
use Rattle.text.proofs.appending.append_ends.Given as goal

abbrev pub invariant-loop-low : goal.invariant-loop-low
invariant-loop-low l =
    let i = length l.yielded in
    Appended (42 * i) l.initial.out l.out l.at l.next (spaced (ends (firsts i l.lows) (firsts i l.highs)))
