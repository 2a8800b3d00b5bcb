-- `align::tied` meets its contract: the second set keeps its identifiers.
use Rattle.align.specs.Joins.{common_of, joined_of, tied-sum}
use Rattle.align.proofs.tied.Goals as goal

pub join-requires : goal.join-requires
join-requires c =
    let s = c in
    (s.requires.0, s.requires.1, common_of (tied-sum s.args.a s.args.b) s.requires.2, s.requires.3)

pub returns : goal.returns
returns c =
    let s = c.args in
    joined_of (tied-sum s.a s.b) c.join.ensures
