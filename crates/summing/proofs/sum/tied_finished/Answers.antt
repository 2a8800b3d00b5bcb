-- `sum::tied_finished` meets its contract.
use native.Mathlib.Omega.{arith}
use Rattle.summing.specs.Summand.{for_sum}
use Rattle.summing.specs.Summed.{work_space, tied_shaped, joined_finishable, joined_as}
use Rattle.summing.proofs.sum.tied_finished.Goals as goal

pub tied-sum-requires : goal.tied-sum-requires
tied-sum-requires c =
    let s = c in
    (for_sum _ s.requires.0.first, for_sum _ s.requires.0.second, s.requires.1, work_space)

pub finish_sum-requires : goal.finish_sum-requires
finish_sum-requires c =
    let t = c in
    let s = t in
    joined_finishable _ s.requires.0.first _ (tied_shaped _ _ s.requires.0) _ _ t.tied-sum.ensures (omega arith) (omega arith) (omega arith)

pub returns : goal.returns
returns c =
    let t = c in
    let s = t in
    joined_as _ s.requires.0.first _ (tied_shaped _ _ s.requires.0) _ _ t.tied-sum.ensures c.finish_sum.ensures
