-- The step before it is finished keeps every motion.
use mathlib.Core.Path.{◌≡◌}
use Rattle.model.specs.Set.{Zonotope}
use Rattle.model.specs.Step.{Step, raw, rounded}
use Rattle.model.specs.Points.{Vector, Point, InRange}
use Rattle.model.specs.Motion.{image}
use Rattle.model.proofs.RawPoint.{raw_point}
use Rattle.model.proofs.Rounded.{rounded_point}

-- the exact image of a point is a point of the rounded image at the same factor values
pub step_point : (p : Step) (s : Zonotope) {α x : Vector} → s.dimension ≡ p.columns → InRange α → Point s α x
    → Point (rounded (raw p s)) α (image p x)
step_point p s {α} {x} d w pt = rounded_point (image p x) w (raw_point p s d w pt)
