-- What is claimed of a hull (Propositions 14 and 15): at equal factor values it has every point between a point of the one set and a point
-- of the other. The theorems are in proofs/HullPoint.antt.
use Rattle.std.specs.Prelude.{◌≡◌, List, true, ℕ, ◌<◌, ltb}
use Rattle.rational.specs.Rational.{ℚ, neg_ℚ, 1ℚ}
use Rattle.rational.specs.Bounds.{Within}
use Rattle.rational.specs.Sum.{All}
use Rattle.model.specs.Set.{Zonotope}
use Rattle.model.specs.Valid.{rises}
use Rattle.model.specs.Hull.{hull}
use Rattle.model.specs.Points.{Vector, Point, InRange}
use Rattle.model.specs.Motion.{between, with_fresh}

-- x is a point of s, and y one of u, at the factor values α; `next` is above the identifiers of both
pub record Outcomes (next : ℕ) (s u : Zonotope) (α x y : Vector) : Type 0 where
  pub in_order : rises ltb s.identifiers ≡ true
  pub same-dimension : s.dimension ≡ u.dimension
  pub first_below : All (◌< next) s.identifiers
  pub second_below : All (◌< next) u.identifiers
  pub in_range : InRange α
  pub first : Point s α x
  pub second : Point u α y

-- every point between the two is one of the hull, the blend being the fresh factor's value
abbrev pub HullBetween : Type 0
HullBetween = (weights : List ℕ) (next : ℕ) (s u : Zonotope) (α x y : Vector) → Outcomes next s u α x y → (c : ℚ) → Within c 1ℚ
    → Point (hull weights next s u) (with_fresh next c α) (between c x y)

-- so at the blend 1 the first set's points are its points, and at -1 the second's
abbrev pub HullEnds : Type 0
HullEnds = (weights : List ℕ) (next : ℕ) (s u : Zonotope) (α x y : Vector) → Outcomes next s u α x y
    → Point (hull weights next s u) (with_fresh next 1ℚ α) x × Point (hull weights next s u) (with_fresh next (neg_ℚ 1ℚ) α) y
