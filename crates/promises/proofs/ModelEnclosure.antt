-- Promised of the definitions: every motion is enclosed, and what lies between the two sets of a hull.
use mathlib.Core.List.{List}
use Prim.Native.Nat.{ℕ}
use Rattle.rational.specs.Rational.{ℚ, 1ℚ, neg_ℚ}
use Rattle.rational.specs.Bounds.{Within}
use Rattle.model.specs.Set.{Zonotope}
use Rattle.model.specs.Hull.{hull}
use Rattle.model.specs.Points.{Vector, Point}
use Rattle.model.specs.Motion.{Picks, Allowed, Always, beginning, with_fresh, between}
use Rattle.model.specs.Between.{Outcomes}
use Rattle.model.specs.Reached.{Parts, picks, six_fields, Lands}
use Rattle.model.proofs.OldFault.{OldAlways}
use Rattle.model.proofs.Enclosed as Enclosed
use Rattle.model.proofs.OldFault as OldFault
use Rattle.model.proofs.HullPoint as HullPoint
use Rattle.model.proofs.Reached as Reached

-- Demand 3, entire: whatever bytes the fields hold, after each accepted field every motion that picks inside its limits is a point of the
-- current set and in the answered box, and not in a region that is called safe.
pub enclosed : (fields : List (List ℕ)) (p : Picks) → Allowed p fields → Always p 0 (beginning p) fields
enclosed = Enclosed.enclosed

-- In a run with each kind of pick every pick may take any part of its limit, and goes where exact arithmetic says.
pub reached : (t : Picks) → Parts t → Allowed (picks t) six_fields × Lands t
reached = Reached.reached

-- With a next identifier that doesn't rise, that is false.
pub old_edition_loses : ¬ ((fields : List (List ℕ)) (p : Picks) → Allowed p fields → OldAlways p 0 (beginning p) fields)
old_edition_loses = OldFault.old_edition_loses

-- At equal factor values a hull has every point between a point of the one set and a point of the other.
pub hull-between : (weights : List ℕ) (next : ℕ) (s u : Zonotope) (α x y : Vector) → Outcomes next s u α x y
    → (c : ℚ) → Within c 1ℚ → Point (hull weights next s u) (with_fresh next c α) (between c x y)
hull-between = HullPoint.hull-between

-- At the blend 1 it has the first set's points, at -1 the second's.
pub hull-ends : (weights : List ℕ) (next : ℕ) (s u : Zonotope) (α x y : Vector) → Outcomes next s u α x y
    → Point (hull weights next s u) (with_fresh next 1ℚ α) x × Point (hull weights next s u) (with_fresh next (neg_ℚ 1ℚ) α) y
hull-ends = HullPoint.hull-ends
