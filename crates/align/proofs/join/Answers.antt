-- `align::join` meets its contract: each part is what its call ensures.
use mathlib.Core.Path.{ap, ◌∙◌}
use Rattle.zonotope.specs.Record.{wide_parts_of}
use Rattle.align.specs.Joins.{joins_centre, joins_radii, joins_centre_small, joins_radii_small}
use Rattle.align.proofs.join.Goals as goal

pub join_terms-requires : goal.join_terms-requires
join_terms-requires c =
    let p = c.requires in
    (p.0, p.1, p.2, p.3.exponents-long, p.3.numbers-long, p.3.numbers_small)

pub join_generators-requires : goal.join_generators-requires
join_generators-requires c =
    let p = c.requires in
    (p.0, p.1, p.3.generators_long, p.3.generators_small)

pub returns : goal.returns
returns c =
    let s = c in
    let a = s.args.a in
    let b = s.args.b in
    let ids = s.args.ids.now in
    record {
      common = s.requires.2;
      terms = c.join_terms.ensures;
      generators = c.join_generators.ensures ids;
      centre = c.add_centres.ensures ∙ joins_centre a b s.requires.0 s.requires.1 ids;
      radii = ap wide_parts_of c.add_radii.ensures ∙ joins_radii a b s.requires.0 s.requires.1 ids;
      centre_small = joins_centre_small a b s.requires.0 s.requires.1 ids;
      radii_small = joins_radii_small a b s.requires.0 s.requires.1 ids;
    }
