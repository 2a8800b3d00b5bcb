-- `spans::of_set` meets its contract: the sums D and r, and the spans from them.
use Rattle.std.proofs.Common.{rules, arith, replicate, ◌≡◌}
use Rattle.whole.specs.Tab.{tab, all}
use Rattle.forms.specs.Made.{made, callable}
use Rattle.raw.specs.Accepted.{RowsSized}
use Rattle.raw.specs.Unused.{counts_in}
use Rattle.image.specs.Remainder.{Below, zeros-below}
use Rattle.image.specs.Radii.{independent_spread, independent_from, terms-below, independent_below, radii-below}
use Rattle.image.specs.Radii.{terms_room, generators_room}
use Rattle.widths.specs.Spanning.{spans_are}
use Rattle.widths.proofs.spans.of_set.Goals as goal
use Rattle.widths.proofs.spans.of_set.Goals.{Start, After-spreads-r}

sized : (s : Start) → RowsSized s.args.s
sized s = record { centre = search rules; exponents = search rules; coefficients = search rules; vectors = search rules }

independent : (r : After-spreads-r) → r.spreads-r.result ≡ tab 6 (independent_spread r.args.s r.requires)
independent r =
    independent_from r.args.s r.requires r.totals-radii.result _ r.totals-radii.ensures.0 r.spreads-r.ensures

pub spreads-d-requires : goal.spreads-d-requires
spreads-d-requires c =
    let b = counts_in c.args.s c.requires in
    (b.2, omega (arith, b, (sized (goal.at.spreads-d-requires c).Start).coefficients), terms_room c.args.s c.requires, zeros-below 1048576 6)

pub spreads-r-requires : goal.spreads-r-requires
spreads-r-requires c =
    let b = counts_in c.args.s c.requires in (
      omega arith,
      omega (arith, b, (sized (goal.at.spreads-r-requires c).Start).vectors),
      generators_room c.args.s c.requires,
      rw c.totals-radii.ensures.0 (radii-below c.args.s c.requires),
    )

pub from_fn-requires : goal.from_fn-requires
unfolding all
from_fn-requires c =
    let d : Below 1048576 c.spreads-d.result = rw c.spreads-d.ensures (terms-below c.args.s c.requires (replicate 6 0) tt) in
    let r : Below 1048576 c.spreads-r.result =
    rw (independent (goal.at.from_fn-requires c).After-spreads-r) (independent_below c.args.s c.requires) in
    (search rules, callable 6 (λ i l. search rules) (λ i x q k. search rules))

pub returns : goal.returns
unfolding all
returns c =
    spans_are c.args.s c.requires (replicate 6 0) tt c.spreads-d.result c.spreads-r.result c.spreads-d.ensures
    (independent (goal.at.returns c).After-spreads-r) _ (made _ 6 0 (λ i x q l k. search rules) c.from_fn.ensures.items)
