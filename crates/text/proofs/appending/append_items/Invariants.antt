-- `text::appending::append_items` meets its contract: after i turns the first i numbers stand from the place on.
use Rattle.std.specs.Prelude.{◌*◌}
use Rattle.text.specs.Appended.{Appended}
use Rattle.text.specs.Pieces.{items}
use Rattle.text.proofs.appending.append_items.Given as goal

abbrev pub invariant-loop-number : goal.invariant-loop-number
invariant-loop-number l = Appended (21 * l.number-index) l.initial.out l.out l.at l.next (items l.number-index l.numbers)
