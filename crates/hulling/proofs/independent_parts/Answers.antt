-- `hulling::independent_parts` meets its contract.
use mathlib.Core.Path.{◌≡◌, sym}
use lib.ListN.{length}
use Rattle.raw.specs.Unused.{counts_in}
use Rattle.image.specs.Radii.{generators_room, independent_from, radii-below}
use Rattle.hulling.specs.BlendRadii.{for_parts}
use native.Mathlib.Omega.{arith}
use borrow.Author.Rules.{rules}
use Rattle.hulling.proofs.independent_parts.Goals as goal
use Rattle.hulling.proofs.independent_parts.Goals.{Start}

long : (s : Start) → length s.args.s.vectors ≡ 144
long s = search rules

pub slice_bounds-spreads-end : goal.slice_bounds-spreads-end
slice_bounds-spreads-end c = sym (long c.before.before.before.before)

pub spreads-requires : goal.spreads-requires
spreads-requires c =
    let w = c in
    let z = w in
    let ok = for_parts z.args.s z.requires in
    let few = (counts_in z.args.s ok).3 in
    (omega arith, omega (arith, long c.before.before.before.before.before), generators_room z.args.s ok, rw w.totals-totals.ensures.0 (radii-below z.args.s ok))

pub returns : goal.returns
returns c =
    let w = c in
    let z = w in
    independent_from z.args.s (for_parts z.args.s z.requires) w.totals-totals.result _ w.totals-totals.ensures.0 c.spreads.ensures
