-- `ends_of` meets its contract: each end is the one that the parts give.
use Rattle.std.specs.Prelude.{true, false}
use Rattle.std.proofs.Common.{◌∙◌, arith}
use Rattle.verdicts.specs.Ends.{view-ends}
use Rattle.verdicts.proofs.ends_of.Goals as goal

pub reach-requires : goal.reach-requires
reach-requires c =
    let few = c.requires.terms in (
      c.requires.dimension,
      (λ i. omega (arith, c.extremes-terms.ensures.0.small i)),
      (λ i. omega (arith, c.extremes-terms.ensures.1.small i)),
      c.column_sizes-sizes.ensures.1,
      c.totals.ensures.1,
    )

pub returns : goal.returns
returns c =
    let few = c.requires.dimension in
    let sizes = c.column_sizes-sizes.ensures.0 in (
      c.reach.ensures.0 ∙ view-ends _ false few c.extremes-terms.ensures.0 sizes c.totals.ensures.0,
      c.reach.ensures.1 ∙ view-ends _ true few c.extremes-terms.ensures.1 sizes c.totals.ensures.0,
    )
