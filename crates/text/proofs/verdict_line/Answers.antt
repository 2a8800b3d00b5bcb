-- `text::verdict_line` meets its contract: piece after piece.
use Rattle.text.specs.Lines.{verdict_put}
use Rattle.text.proofs.verdict_line.Goals as goal

pub returns : goal.returns
returns c =
    verdict_put _ c.from.ensures c.append_number-at.ensures c.append_item-at.ensures _
    c.append_verdict.ensures
