-- Every point of a set is in its box.
use mathlib.Core.Path.{sym, subst}
use lib.IntN.{pos}
use Rattle.whole.specs.Tab.{length-tab, get_d_tab}
use Rattle.rational.specs.Rational.{ι, ◌≤ℚ◌}
use Rattle.model.specs.Set.{Zonotope, at, radius}
use Rattle.model.specs.Operations.{low, high, box}
use Rattle.model.specs.Points.{Vector, Point, InRange}
use Rattle.model.specs.Motion.{InBox}
use Rattle.model.proofs.Parts.{near_parts, spread}
use Rattle.model.proofs.Ends.{low_holds, high_holds}

pub box_point : {s : Zonotope} {α x : Vector} → InRange α → Point s α x → InBox s.dimension x (box s)
unfolding box spread
box_point {s} {α} {x} w p = record {
  sides = (length-tab s.dimension (low s), length-tab s.dimension (high s));
  above = λ i d. subst (λ z. ι z ≤ℚ x i) (sym (get_d_tab s.dimension (low s) (pos 0) i d))
      (low_holds (λ v. at v i) (radius s i) w p (near_parts p i d));
  below = λ i d. subst (λ z. x i ≤ℚ ι z) (sym (get_d_tab s.dimension (high s) (pos 0) i d))
      (high_holds (λ v. at v i) (radius s i) w p (near_parts p i d));
}
