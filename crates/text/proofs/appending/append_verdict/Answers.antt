-- `text::appending::append_verdict` meets its contract: one word or the other.
use Rattle.model.specs.Text.{ascii}
use Rattle.text.specs.Pieces.{safe_put, unknown_put}
use Rattle.text.proofs.appending.append_verdict.Goals as goal

pub returns-then-safe : goal.returns-then-safe
unfolding ascii
returns-then-safe c = safe_put _ c.if-safe.true c.append.ensures

pub returns-else-safe : goal.returns-else-safe
unfolding ascii
returns-else-safe c = unknown_put _ c.if-safe.false c.append-else-safe.ensures
