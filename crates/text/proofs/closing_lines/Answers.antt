-- `text::closing_lines` meets its contract: line after line.
use Rattle.text.specs.Lines.{closing_put}
use Rattle.text.proofs.closing_lines.Goals as goal

pub returns : goal.returns
returns c =
    closing_put c.folded_line-at.ensures c.end_line.ensures
