-- `align::tied_identifiers` meets its contract: the union of the identifiers of both sets is that of their tied sum.
use Rattle.align.specs.Joins.{factors_of, tied-sum}
use Rattle.align.specs.Examined.{counts}
use Rattle.align.proofs.tied_identifiers.Goals as goal

pub unite-requires : goal.unite-requires
unite-requires c =
    let s = c in
    ((counts s.args.a s.requires.0).factors_few, (counts s.args.b s.requires.1).factors_few)

pub returns : goal.returns
returns c =
    let s = c.args in
    factors_of s.a s.b s.b.identifiers c.unite.result (tied-sum s.a s.b) c.unite.ensures.0
