-- `conclusion::inside` meets its contract.
use Rattle.advance.specs.ConclusionLaws.{box-answer, advanced_by}
use Rattle.advance.proofs.conclusion.inside.Goals as goal

pub left-requires : goal.left-requires
left-requires c = c.requires

pub ends_of-ends-requires : goal.ends_of-ends-requires
ends_of-ends-requires c = c.requires.0.limits

pub returns : goal.returns
returns c =
    let a = c.args in
    advanced_by (box-answer a.st.count a.bytes a.m.set c.ends_of-ends.ensures.0 c.ends_of-ends.ensures.1) c.left.ensures c.works.ensures
