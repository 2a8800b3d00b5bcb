-- `text::folded_line` meets its contract: piece after piece.
use Rattle.std.proofs.Common.{refl, arith}
use Rattle.model.specs.Text.{ascii}
use Rattle.text.specs.Appended.{named}
use Rattle.text.specs.Lines.{folded_put}
use Rattle.text.proofs.folded_line.Goals as goal

pub returns : goal.returns
unfolding ascii
returns c = folded_put _ c.append-at.ensures (named (omega arith) refl c.append_items-at.ensures) c.append.ensures
