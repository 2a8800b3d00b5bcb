-- `reduce` meets its contract.
use Rattle.answers.proofs.Settled.{answered_as}
use Rattle.sums.proofs.reduce.Goals as goal

pub returns : goal.returns
returns c = answered_as _ _ _ c.answer.ensures c.reduced.ensures
