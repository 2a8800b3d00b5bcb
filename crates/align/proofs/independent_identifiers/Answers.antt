-- `align::independent_identifiers` meets its contract: with fresh identifiers for the second set the union is that of the sum.
use Rattle.align.specs.Joins.{factors_of, independent-sum}
use Rattle.align.specs.Examined.{counts}
use Rattle.align.proofs.independent_identifiers.Goals as goal

pub renumber-fresh-requires : goal.renumber-fresh-requires
renumber-fresh-requires c = (c.requires.2, (counts c.args.b c.requires.1).factors_few)

pub unite-requires : goal.unite-requires
unite-requires c =
    let s = c in
    ((counts s.args.a s.requires.0).factors_few, (counts s.args.b s.requires.1).factors_few)

pub returns : goal.returns
returns c =
    let s = c.args in
    let r = c.renumber-fresh in
    factors_of s.a s.b r.result c.unite.result (independent-sum s.a s.b s.next r.result r.ensures)
    c.unite.ensures.0
