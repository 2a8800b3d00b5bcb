-- `hulling::finished` meets its contract: the blend rounded, and finished.
use Rattle.hulling.specs.HullRows.{hull_finishable, hull_as}
use Rattle.answers.specs.Finishing.{zeros_small}
use Rattle.summing.specs.Summand.{for_sum}
use native.Mathlib.Omega.{arith}
use mathlib.Core.Path.{◌≡◌, sym, ap, ◌∙◌}
use lib.ListN.{length}
use Rattle.whole.specs.Tab.{length-tab}
use borrow.Author.Rules.{rules}
use Rattle.hulling.proofs.finished.Goals as goal
use Rattle.hulling.proofs.finished.Goals.{After-blend-centre, Start, After-blend_radii-radii, After-with_next-identifiers, After-round_first-2, After-round_first}

-- where the blend was made, and the function began
abbrev begun : After-blend-centre → Start
begun b = b.before.before.before

abbrev blend_of : After-blend_radii-radii → After-blend-centre
blend_of r = r.before.before.before.before.before.before.before.before.before

-- the blend's centre fills its array
centre-long : (b : After-blend-centre) → length b.blend-centre.result ≡ 6
centre-long b = ap length (b.blend-centre.ensures.centre_is 0) ∙ length-tab 6 _

pub blend-centre-requires : goal.blend-centre-requires
blend-centre-requires c =
    let z = c in
    (for_sum _ z.requires.0.first, for_sum _ z.requires.0.second, z.requires.1, search rules, search rules, zeros_small 966)

pub blend_radii-radii-requires : goal.blend_radii-radii-requires
blend_radii-radii-requires c =
    let b = c in
    let few = b.blend-centre.ensures.few in
    (c.requires.0.first, c.requires.0.second, omega arith, omega arith)

pub round_first-requires : goal.round_first-requires
round_first-requires c = omega arith

pub slice_bounds-round_first-end-2 : goal.slice_bounds-round_first-end-2
slice_bounds-round_first-end-2 c = sym (centre-long (blend_of c.before.before.before.before))

pub round_first-requires-2 : goal.round_first-requires-2
round_first-requires-2 c = omega (arith, centre-long (blend_of c.before.before.before.before))

pub with_next-identifiers-requires : goal.with_next-identifiers-requires
with_next-identifiers-requires c = (begun (blend_of c.before.before.before.before.before.before.before)).requires.2

-- what finishing is lent
module _ (m : After-with_next-identifiers) where
  abbrev centre-at : After-round_first-2
  centre-at = m.before.before.before

  abbrev numbers-at : After-round_first
  numbers-at = m.before.before.before.before.before.before

  abbrev radii-at : After-blend_radii-radii
  radii-at = m.before.before.before.before.before.before.before.before

  abbrev blend-at : After-blend-centre
  blend-at = blend_of radii-at

  abbrev z : Start
  z = begun blend-at

pub overflow_add-u : goal.overflow_add-u
overflow_add-u c =
    let few = c.requires.2 in omega arith

pub overflow_mul-rows-2 : goal.overflow_mul-rows-2
overflow_mul-rows-2 c = let few = c.blend-centre.ensures.few in omega arith

pub slice_bounds-finish_rows-end : goal.slice_bounds-finish_rows-end
slice_bounds-finish_rows-end c = let b = c in let few = b.blend-centre.ensures.few in omega (arith, b.blend-centre.auto)

pub overflow_mul-rows-3 : goal.overflow_mul-rows-3
overflow_mul-rows-3 c = let few = c.blend-centre.ensures.few in omega arith

pub slice_bounds-finish_rows-end-2 : goal.slice_bounds-finish_rows-end-2
slice_bounds-finish_rows-end-2 c =
    let m = c in
    let b = c in
    let few = b.blend-centre.ensures.few in omega (arith, b.blend-centre.auto, c.round_first.auto)

pub finish_rows-requires : goal.finish_rows-requires
finish_rows-requires c =
    let m = c in
    let b = c in (
      hull_finishable c.args.first c.args.second c.requires.0 c.args.next c.args.all c.requires.1 c.requires.2
          _ _ _ b.blend-centre.ensures (omega (arith, b.blend-centre.auto)) (omega (arith, b.blend-centre.auto)) _ _ _ _
          c.round_first.ensures c.round_first-2.ensures m.with_next-identifiers.ensures
          c.blend_radii-radii.ensures,
      omega arith,
      omega arith,
    )

pub returns : goal.returns
returns c =
    let m = c in
    let b = c in
    hull_as c.args.first c.args.second c.requires.0 c.args.next c.args.all c.requires.1 c.requires.2
    _ _ _ b.blend-centre.ensures (omega (arith, b.blend-centre.auto)) (omega (arith, b.blend-centre.auto)) _ _ _ _
    c.round_first.ensures c.round_first-2.ensures m.with_next-identifiers.ensures
    c.blend_radii-radii.ensures c.finish_rows.ensures
