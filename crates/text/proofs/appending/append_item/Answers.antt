-- `text::appending::append_item` meets its contract: piece after piece.
use Rattle.model.specs.Text.{ascii}
use Rattle.text.specs.Appended.{both}
use Rattle.text.proofs.appending.append_item.Goals as goal

pub returns : goal.returns
unfolding ascii
returns g c = both c.append-next.ensures c.append_number.ensures
