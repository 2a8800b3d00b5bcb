-- `sum::independent_finished` meets its contract.
use native.Mathlib.Omega.{arith}
use Rattle.model.specs.Operations.{independent_sum}
use Rattle.summing.specs.Summand.{for_sum}
use Rattle.summing.specs.Summed.{work_space, independent_shaped, joined_finishable, joined_as}
use Rattle.summing.proofs.sum.independent_finished.Goals as goal

pub independent-sum-requires : goal.independent-sum-requires
independent-sum-requires c =
    let s = c in
    (for_sum _ s.requires.0.first, for_sum _ s.requires.0.second, s.requires.1.few, s.requires.2, work_space)

pub finish_sum-requires : goal.finish_sum-requires
finish_sum-requires c =
    let t = c in
    let s = t in
    joined_finishable _ s.requires.0.first _ (independent_shaped _ _ s.requires.0 s.args.next) _ _ t.independent-sum.ensures
    (omega arith) (omega arith) (omega arith)

pub returns : goal.returns
unfolding independent_sum
returns c =
    let t = c in
    let s = t in
    joined_as _ s.requires.0.first _ (independent_shaped _ _ s.requires.0 s.args.next) _ _ t.independent-sum.ensures
    c.finish_sum.ensures
