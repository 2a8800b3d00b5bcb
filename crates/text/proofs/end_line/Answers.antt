-- `text::end_line` meets its contract: piece after piece.
use Rattle.model.specs.Text.{ascii}
use Rattle.text.specs.Lines.{end_put}
use Rattle.text.proofs.end_line.Goals as goal

pub returns : goal.returns
unfolding ascii
returns c =
    end_put _ c.append-at.ensures c.append_item-at.ensures c.append.ensures
