-- `align::independent` meets its contract: the second set has the identifiers next, next + 1 ..
use Rattle.align.specs.Joins.{common_of, joined_of, independent-sum}
use Rattle.align.specs.Examined.{counts}
use Rattle.align.proofs.independent.Goals as goal

pub renumber-ids-requires : goal.renumber-ids-requires
renumber-ids-requires c = (c.requires.2, (counts c.args.b c.requires.1).factors_few)

pub join-requires : goal.join-requires
join-requires c =
    let s = c in
    let r = c.renumber-ids in (
      s.requires.0,
      s.requires.1,
      common_of (independent-sum s.args.a s.args.b s.args.next r.result r.ensures) s.requires.3,
      s.requires.4,
    )

pub returns : goal.returns
returns c =
    let s = c.args in
    let r = c.renumber-ids in
    joined_of (independent-sum s.a s.b s.next r.result r.ensures) c.join.ensures
