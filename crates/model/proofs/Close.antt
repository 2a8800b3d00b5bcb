-- Where nothing is independent, a step is as close as its roundings: a point of the result is off by the count of inexact roundings and
-- a half at most.
use mathlib.Core.Path.{◌≡◌, refl, sym, ◌∙◌, ap, ap₂, subst}
use mathlib.Core.List.{List, [], ◌∷◌, map}
use Prim.Native.Nat.{ℕ, ◌+◌, ◌*◌, ◌<◌, ◌≤◌}
use native.Mathlib.Omega.{arith}
use lib.ListN.{length, get_or, length-map}
use lib.IntN.{pos, nat_abs}
use Rattle.whole.specs.Round.{scale, round}
use Rattle.whole.specs.Sum.{sum_by, sum_ℕ, upto_ℕ, upto_bound}
use Rattle.whole.specs.Tab.{tab, get_d_tab}
use Rattle.rational.specs.Rational.{ℚ, ◌+ℚ◌, ◌*ℚ◌, neg_ℚ, ι, ½, ◌≤ℚ◌}
use Rattle.rational.proofs.Ring.{+ℚ-assoc, +ℚ-zero, zero-+ℚ, +ℚ-neg, *ℚ-comm, *ℚ-+ℚ, half_twice}
use Rattle.rational.proofs.Sign.{NonNeg-ι}
use Rattle.rational.proofs.Bounds.{within-neg}
use Rattle.rational.specs.Near.{Near}
use Rattle.rational.proofs.Near.{near_refl, near_trans, near_as}
use Rattle.rational.specs.Sum.{none}
use Rattle.model.specs.Limits.{max_terms, max_generators}
use Rattle.model.specs.Set.{Zonotope, at, radius, term_sizes, generator_sizes, independent_size}
use Rattle.model.specs.Step.{Step, RawImage, quadratic_at, slope, remainder, raw_linear, raw, inexact_at, carried_at, rounded_at, rounded}
use Rattle.model.specs.Step.{step}
use Rattle.model.specs.Points.{Vector, value_at, Point, InRange}
use Rattle.model.specs.Motion.{image}
use Rattle.model.specs.Precision.{StepClose}
use Rattle.model.proofs.RawUnits.{in_raw_units, raw_units_radius}
use Rattle.model.proofs.FoldsNothing.{finish-exact}
use Rattle.model.proofs.WholeForms.{ι-+ℕ, ι-*ℕ}
use Rattle.model.proofs.RawPoint.{raw-image}
use Rattle.model.proofs.Rounded.{round-value, near_times, unscale, ≤-whole, rounded-radius}

near_sym : {x v r : ℚ} → Near x v r → Near v x r
near_sym {x} {v} n = record {
  off = neg_ℚ n.off;
  small = within-neg n.small;
  is = sym (ap (◌+ℚ neg_ℚ n.off) n.is ∙ +ℚ-assoc v n.off (neg_ℚ n.off) ∙ ap (v +ℚ◌) (+ℚ-neg n.off) ∙ +ℚ-zero v);
}

empty : (bs : List ℚ) → length bs ≡ 0 → bs ≡ []
empty [] e = refl
empty (b ∷ bs) e = absurd (omega (arith, e))

-- the radius, half of the count rounded up, and half of the count again
enough : (r u : ℕ) → r + r ≤ u + 1
    → ι (pos scale) *ℚ ι (pos r) +ℚ ι (pos 8388608) *ℚ ι (pos u) ≤ℚ ι (pos scale) *ℚ (ι (pos u) +ℚ ½)
enough r u h = ≤-whole (scale * r + 8388608 * u) (scale * u + 8388608) (simp (ι-+ℕ, ι-*ℕ)) high (omega arith)
  where
    half : ι (pos scale) *ℚ ½ ≡ ι (pos 8388608)
    half = *ℚ-comm (ι (pos scale)) ½ ∙ ap (½ *ℚ◌) (ι-+ℕ 8388608 8388608) ∙ half_twice (ι (pos 8388608))

    high : ι (pos (scale * u + 8388608)) ≡ ι (pos scale) *ℚ (ι (pos u) +ℚ ½)
    high = ι-+ℕ (scale * u) 8388608 ∙ ap₂ ◌+ℚ◌ (ι-*ℕ scale u) (sym half) ∙ sym (*ℚ-+ℚ (ι (pos scale)) (ι (pos u)) ½)

-- any image without generators and remainder: what is a point of it, in raw units, is close to every point of the image rounded
pub rounded_close : (r : RawImage) {α z : Vector} (x : Vector) → InRange α → r.generators ≡ []
    → Point (in_raw_units r) α (λ i. ι (pos scale) *ℚ x i) → Point (rounded r) α z → (i : ℕ) → i < r.dimension
    → get_or r.remainders i 0 ≡ 0
    → Near (z i) (x i) (ι (pos (inexact_at r i)) +ℚ ½)
unfolding rounded carried_at rounded_at
rounded_close r {α} {z} x w no-generators from to i h no_remainder =
    unscale (ι (pos u) +ℚ ½) (near_trans (near_times (NonNeg-ι scale) found) (near_sym exact)) (enough b u small)
  where
    u : ℕ
    u = inexact_at r i

    b : ℕ
    b = radius (rounded r) i

    small : b + b ≤ u + 1
    small = let e = rounded-radius r i h in omega arith

    none_left : length r.generators ≡ 0
    none_left = ap length no-generators

    -- the point is near the value of the image rounded
    found : Near (z i) (value_at (rounded r) α [] i) (ι (pos b))
    found = subst (λ bs. Near (z i) (value_at (rounded r) α bs i) (ι (pos b)))
        (empty to.numbers (to.one_each ∙ length-map r.generators (map round) ∙ none_left)) (to.near i h)

    -- and so is x
    exact : Near (ι (pos scale) *ℚ x i) (ι (pos scale) *ℚ value_at (rounded r) α [] i) (ι (pos 8388608) *ℚ ι (pos u))
    exact = near_as (near_trans (subst (λ bs. Near (ι (pos scale) *ℚ x i) (value_at (in_raw_units r) α bs i)
        (ι (pos (radius (in_raw_units r) i)))) (empty from.numbers (from.one_each ∙ none_left)) (from.near i h))
        (round-value r α [] w (sym none_left) none i)) refl
        (ap (λ m. ι (pos m) +ℚ ι (pos 8388608) *ℚ ι (pos u)) (raw_units_radius r i ∙ no_remainder)
        ∙ zero-+ℚ (ι (pos 8388608) *ℚ ι (pos u)))

-- ---- no generators and no radii leave no remainder
pub upto_zero : (f : ℕ → ℕ) (n : ℕ) → ((j : ℕ) → f j ≡ 0) → upto_ℕ f n ≡ 0
upto_zero f n h = omega (arith, upto_bound f 0 n (λ j _. omega (arith, h j)))

module _ (p : Step) (s : Zonotope) (no-generators : s.generators ≡ []) (no-radii : (j : ℕ) → radius s j ≡ 0) where
  no_independent : (j : ℕ) → independent_size s j ≡ 0
  unfolding generator_sizes sum_by
  no_independent j = ap₂ ◌+◌ (ap (sum_ℕ (λ g. nat_abs (at g j))) no-generators) (no-radii j)

  remainder-zero : (i : ℕ) → remainder p s i ≡ 0
  unfolding remainder
  remainder-zero i =
      ap₂ ◌+◌ (upto_zero _ p.columns (λ j. times_zero (nat_abs (slope p s i j)) (no-radii j)))
      (upto_zero _ p.columns (λ j. upto_zero _ p.columns (λ l.
      cross-zero (nat_abs (quadratic_at p i j l)) (term_sizes s j) (term_sizes s l) (no_independent j) (no_independent l))))
    where
      times_zero : (a : ℕ) {b : ℕ} → b ≡ 0 → a * b ≡ 0
      times_zero a e = rw e (omega arith)

      cross-zero : (q a b : ℕ) {x y : ℕ} → x ≡ 0 → y ≡ 0 → q * (a * y + x * b + x * y) ≡ 0
      cross-zero q a b e f = rw (e, f) (omega arith)

  -- the exact image is within the count and a half of every point at the same factor values
  pub close : {α z : Vector} → InRange α → Point (rounded (raw p s)) α z → (i : ℕ) → i < p.rows
      → Near (z i) (image p (value_at s α []) i) (ι (pos (inexact_at (raw p s) i)) +ℚ ½)
  unfolding raw
  close {α} w pt i h = rounded_close (raw p s) (image p (value_at s α [])) w
      (ap (map (λ g. tab p.rows (raw_linear p s g))) no-generators)
      (raw-image p s w [] (sym (ap length no-generators)) none
      (λ j _. near_as (near_refl (value_at s α [] j)) refl (ap (λ m. ι (pos m)) (sym (no-radii j)))))
      pt i h (get_d_tab p.rows (remainder p s) 0 i h ∙ remainder-zero i)

-- Closeness (demand 2): the same of a step that folds nothing
pub step_close : StepClose
unfolding step
step_close p s no-generators no-radii weights n α z w pt i h =
    close p s no-generators no-radii w ((finish-exact weights max_terms max_generators n).1 pt) i h
