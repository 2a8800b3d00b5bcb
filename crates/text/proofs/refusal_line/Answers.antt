-- `text::refusal_line` meets its contract: piece after piece.
use Rattle.model.specs.Text.{ascii}
use Rattle.text.specs.Lines.{refusal_put}
use Rattle.text.proofs.refusal_line.Goals as goal

pub returns : goal.returns
unfolding ascii
returns c =
    refusal_put _ _ c.from.ensures c.append_number-at.ensures c.append-at.ensures
    c.append_item-at.ensures c.append_item-at-2.ensures c.append.ensures
