-- `conclusion::judged` meets its contract.
use Rattle.advance.specs.ConclusionLaws.{advanced_by}
use Rattle.advance.proofs.conclusion.judged.Goals as goal

pub left-requires : goal.left-requires
left-requires c = c.requires

pub returns : goal.returns
returns c = advanced_by c.without_box.ensures c.left.ensures c.works.ensures
