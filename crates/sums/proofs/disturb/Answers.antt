-- `disturb` meets its contract.
use Rattle.answers.proofs.Settled.{answered_as}
use Rattle.sums.proofs.disturb.Goals as goal

pub returns : goal.returns
returns c = answered_as _ _ _ c.answer.ensures c.disturbed.ensures
