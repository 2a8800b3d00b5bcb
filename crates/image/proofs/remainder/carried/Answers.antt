-- `image::remainder::carried` meets its contract: the sums w, D and r, and what is carried from them.
use Rattle.std.proofs.Common.{rules, arith, replicate, ◌≡◌}
use Rattle.whole.specs.Tab.{tab, all}
use Rattle.forms.specs.Made.{made, callable}
use Rattle.raw.specs.Accepted.{RowsSized}
use Rattle.raw.specs.Unused.{counts_in}
use Rattle.image.specs.Remainder.{Below, zeros-below}
use Rattle.image.specs.Radii.{independent_spread, independent_from, terms-below, independent_below, radii-below}
use Rattle.image.specs.Radii.{terms_room, generators_room, carried_is}
use Rattle.image.proofs.remainder.carried.Goals as goal
use Rattle.image.proofs.remainder.carried.Goals.{Start, After-spreads-r}

module _ (z : Start) where
  sized : RowsSized z.args.s
  sized = record { centre = search rules; exponents = search rules; coefficients = search rules; vectors = search rules }

independent : (r : After-spreads-r) → r.spreads-r.result ≡ tab 6 (independent_spread r.args.s r.requires.2)
independent r = independent_from r.args.s r.requires.2 r.totals-w.result _ r.totals-w.ensures.0 r.spreads-r.ensures

pub spreads-d-requires : goal.spreads-d-requires
spreads-d-requires c =
    let ok = c.requires.2 in
    let b = counts_in c.args.s ok in
    (b.2, omega (arith, b, (sized (goal.at.spreads-d-requires c).Start).coefficients), terms_room c.args.s ok, zeros-below 1048576 6)

pub spreads-r-requires : goal.spreads-r-requires
spreads-r-requires c =
    let ok = c.requires.2 in
    let b = counts_in c.args.s ok in (
      omega arith,
      omega (arith, b, (sized (goal.at.spreads-r-requires c).Start).vectors),
      generators_room c.args.s ok,
      rw c.totals-w.ensures.0 (radii-below c.args.s ok),
    )

pub from_fn-requires : goal.from_fn-requires
unfolding all
from_fn-requires c =
    let ok = c.requires.2 in
    let d : Below 1048576 c.spreads-d.result = rw c.spreads-d.ensures (terms-below c.args.s ok (replicate 6 0) tt) in
    let r : Below 1048576 c.spreads-r.result =
    rw (independent (goal.at.from_fn-requires c).After-spreads-r) (independent_below c.args.s ok) in
    let w : Below 1048576 c.totals-w.result = rw c.totals-w.ensures.0 (radii-below c.args.s ok) in
    (search rules, callable 6 (λ i l. search rules) (λ i x q k. search rules))

pub returns : goal.returns
unfolding all
returns c =
    carried_is c.args.s c.requires.2 (replicate 6 0) tt c.args.q.now c.args.lines.now c.spreads-d.result c.spreads-r.result
    c.totals-w.result c.args.gains.now c.spreads-d.ensures (independent (goal.at.returns c).After-spreads-r) c.totals-w.ensures.0
    c.requires.1 c.requires.0 c.requires.3 _ (made _ 6 0 (λ i x q l k. search rules) c.from_fn.ensures.items)
