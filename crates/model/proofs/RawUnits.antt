-- An image before rounding as the set with the same numbers, in raw units: so laws of sets and of points tell of it.
use mathlib.Core.Path.{◌≡◌}
use Prim.Native.Nat.{ℕ}
use lib.ListN.{get_or}
use Rattle.model.specs.Set.{Zonotope, radius}
use Rattle.model.specs.Step.{RawImage}
use Rattle.model.proofs.Radii.{carried_only, radius_carried}

abbrev pub in_raw_units : RawImage → Zonotope
in_raw_units r = record {
  dimension = r.dimension;
  identifiers = r.identifiers;
  centre = r.centre;
  terms = r.terms;
  generators = r.generators;
  radii = carried_only r.dimension r.remainders;
}

-- its radius is S
pub raw_units_radius : (r : RawImage) (i : ℕ) → radius (in_raw_units r) i ≡ get_or r.remainders i 0
raw_units_radius r i = radius_carried r.dimension r.remainders i
