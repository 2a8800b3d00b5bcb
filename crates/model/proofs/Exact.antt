-- The sums and the disturbance are exact: a point of a sum that folds nothing is the sum of a point of each summand, and the other way
-- round.
use mathlib.Core.Path.{◌≡◌, sym, ◌∙◌, ap, subst}
use mathlib.Core.Bool.{true}
use mathlib.Core.Logic.Iff
use mathlib.Core.Logic.{◌↔◌}
use Prim.Native.Nat.{ℕ, ◌+◌, ◌<◌}
use native.Mathlib.Omega.{arith}
use lib.Dec.{ltb}
use lib.ListN.{length, get_or, length-append}
use lib.IntN.{pos}
use Rattle.rational.specs.Rational.{ℚ, ◌+ℚ◌, ι, 0ℚ}
use Rattle.rational.proofs.Ring.{+ℚ-zero, zero-+ℚ}
use Rattle.rational.specs.Bounds.{Within}
use Rattle.rational.specs.Near.{Near}
use Rattle.rational.proofs.Near.{near_as}
use Rattle.rational.proofs.Sum.{All-imp}
use Rattle.model.specs.Set.{Zonotope, radius}
use Rattle.model.specs.Valid.{rises}
use Rattle.model.specs.Limits.{max_terms, max_generators}
use Rattle.model.specs.Operations.{joined, tied_sum, renumbered, independent_sum, disturb}
use Rattle.model.specs.Points.{Vector, value_at, Point}
use Rattle.model.specs.Precision.{Split, TiedExact, IndependentExact, DisturbedExact}
use Rattle.model.proofs.Radii.{radius-plus, radius-disturbed}
use Rattle.model.proofs.FoldCovers.{cut}
use Rattle.model.proofs.FoldsNothing.{finish-exact}
use Rattle.model.proofs.Shares.{first_share, second_share, first_near, second_near, shares_sum}
use Rattle.model.proofs.SumPoints.{joined-value, joined_points, disturbed_point}
use Rattle.model.proofs.Values.{same-values, renumbered_points}

-- a point is what its coordinates are
point_as : {s : Zonotope} {α x z : Vector} → ((i : ℕ) → i < s.dimension → z i ≡ x i) → Point s α x → Point s α z
point_as e p = record {
  numbers = p.numbers;
  one_each = p.one_each;
  in_range = p.in_range;
  near = λ i h. let n = p.near i h in record { off = n.off; small = n.small; is = e i h ∙ n.is };
}

-- ---- the tied sum
module _ {s u : Zonotope} (rising : rises ltb s.identifiers ≡ true) (dimensions : s.dimension ≡ u.dimension) where
  -- the numbers are cut between the generators, and the offset is shared between the radii
  joined_split : {α z : Vector} → Point (joined s u) α z → Split s u α α z
  unfolding joined
  joined_split {α} {z} p =
      let c = cut (length s.generators) (length u.generators) p.in_range
      (p.one_each ∙ length-append s.generators u.generators) in
      let m = radius s in let n = radius u in let v = value_at s α c.fore in let w = value_at u α c.aft in
      let near : (i : ℕ) → i < s.dimension → Near (z i) (v i +ℚ w i) (ι (pos (m i + n i))) = λ i h. near_as (p.near i h)
      (ap (λ b. value_at (joined s u) α b i) c.is ∙ joined-value s u rising α c.fore c.aft c.fore_length i)
      (ap (λ r. ι (pos r)) (radius-plus s.radii u.radii i)) in
      record {
        first = λ i. first_share (m i) (n i) (v i) (w i) (z i);
        second = λ i. second_share (m i) (n i) (v i) (w i) (z i);
        first_point = record {
          numbers = c.fore;
          one_each = c.fore_length;
          in_range = c.fore_range;
          near = λ i h. first_near (m i) (n i) (v i) (w i) (z i) (near i h);
        };
        second_point = record {
          numbers = c.aft;
          one_each = c.aft_length;
          in_range = c.aft_range;
          near = λ i h. second_near (m i) (n i) (v i) (w i) (z i) (near i (omega arith));
        };
        sum_is = λ i h. shares_sum (m i) (n i) (v i) (w i) (z i) (near i h);
      }

  -- before finishing, the points of a sum are the sums of points at the same factor values
  pub joined-exact : {α z : Vector} → Point (joined s u) α z ↔ Split s u α α z
  unfolding joined
  joined-exact = (joined_split, λ p. point_as p.sum_is (joined_points rising dimensions p.first_point p.second_point))

-- where the tied sum folds nothing, its points are the sums of points at the same factor values
pub tied-exact : TiedExact
unfolding tied_sum
tied-exact s u rising dimensions weights n α z =
    Iff.trans (Iff.symm (finish-exact weights max_terms max_generators n)) (joined-exact rising dimensions)

-- ---- the independent sum
split_as : {s t u : Zonotope} {α β γ δ z : Vector} → ((x : Vector) → Point s α x → Point s γ x) → ((y : Vector) → Point t β y → Point u δ y)
    → Split s t α β z → Split s u γ δ z
split_as f g p = record {
  first = p.first;
  second = p.second;
  first_point = f p.first p.first_point;
  second_point = g p.second p.second_point;
  sum_is = p.sum_is;
}

-- where the independent sum folds nothing, its points are the sums of points, each set with values of its own
pub independent_exact : IndependentExact
unfolding independent_sum renumbered
independent_exact weights next s u r d b n α β γ z a f =
    let one : (x : Vector) → Point s γ x ↔ Point s α x = λ x. same-values (All-imp a b) in
    let other : (y : Vector) → Point (renumbered next u) γ y ↔ Point u β y = λ y. Iff.symm (renumbered_points next u f) in
    Iff.trans (tied-exact s (renumbered next u) r d weights n γ z)
    (split_as (λ x. (one x).0) (λ y. (other y).0), split_as (λ x. (one x).1) (λ y. (other y).1))

-- ---- the disturbance
near_zero : {x r : ℚ} → Near x 0ℚ r → Within x r
near_zero {r = r} n = subst (λ y. Within y r) (sym (n.is ∙ zero-+ℚ n.off)) n.small

-- the points of a disturbed set are the points of the set, moved by offsets within the radii
pub disturbed-exact : DisturbedExact
unfolding disturb value_at
disturbed-exact r s α z = (
  λ p. let v = value_at s α p.numbers in let m = radius s in let n : ℕ → ℕ = λ i. get_or r i 0 in
      let near : (i : ℕ) → i < s.dimension → Near (z i) (v i +ℚ 0ℚ) (ι (pos (m i + n i))) =
      λ i h. near_as (p.near i h) (sym (+ℚ-zero (v i))) (ap (λ k. ι (pos k)) (radius-disturbed s.radii r i)) in
      record {
        place = λ i. first_share (m i) (n i) (v i) 0ℚ (z i);
        offset = λ i. second_share (m i) (n i) (v i) 0ℚ (z i);
        point = record {
          numbers = p.numbers;
          one_each = p.one_each;
          in_range = p.in_range;
          near = λ i h. first_near (m i) (n i) (v i) 0ℚ (z i) (near i h);
        };
        within = λ i h. near_zero (second_near (m i) (n i) (v i) 0ℚ (z i) (near i h));
        sum_is = λ i h. shares_sum (m i) (n i) (v i) 0ℚ (z i) (near i h);
      },
  λ p. point_as p.sum_is (disturbed_point r p.within p.point),
)
