-- `rewrite::begin` meets its contract.
use Rattle.rewrite.proofs.Flowing.{flow-begun}
use Rattle.rewrite.proofs.begin.Goals as goal

pub returns : goal.returns
returns c = flow-begun c.begin.ensures c.nothing_read.ensures c.nothing_written.ensures
