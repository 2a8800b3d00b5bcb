-- A ranged step before it is finished keeps every motion, whatever coefficients it picks within the half-widths.
use mathlib.Core.Path.{◌≡◌, refl, sym, ◌∙◌, ap, ap₂, subst, fun_ext}
use Prim.Native.Nat.{ℕ, ◌+◌, ◌*◌, ◌<◌}
use native.Mathlib.Omega.{arith}
use lib.IntN.{pos}
use Rattle.whole.specs.Round.{scale}
use Rattle.whole.specs.Sum.{upto_ℕ}
use Rattle.whole.specs.Tab.{get_d_tab}
use Rattle.rational.specs.Rational.{ℚ, ◌+ℚ◌, ◌*ℚ◌, ◌-ℚ◌, ι}
use Rattle.rational.proofs.Ring.{+ℚ-assoc, minus_is}
use Rattle.rational.proofs.Order.{gap_eq}
use Rattle.rational.specs.Bounds.{Within}
use Rattle.rational.proofs.Bounds.{within-+, within-*, within-ι}
use Rattle.rational.specs.Near.{Near}
use Rattle.rational.proofs.Near.{near_as}
use Rattle.rational.specs.Sum.{sum}
use Rattle.rational.proofs.Sum.{sum-*}
use Rattle.model.specs.Set.{Zonotope, at, radius, span}
use Rattle.model.specs.Step.{Step, remainder, raw, rounded}
use Rattle.model.specs.Ranged.{Widths, linear_width, quadratic_width, gain, gaining_raw, ranged_raw}
use Rattle.model.specs.Points.{Vector, value_at, Point, InRange}
use Rattle.model.specs.Motion.{InWidths, places, image_by, image}
use Rattle.model.proofs.RawUnits.{in_raw_units, raw_units_radius}
use Rattle.model.proofs.Forms.{◌⊕◌, dot_ℚ, quadratic, quadratic-+, bilinear_double}
use Rattle.model.proofs.WholeForms.{ι-+ℕ, ι-*ℕ}
use Rattle.model.proofs.Spans.{within_as, point_within}
use Rattle.model.proofs.Raw.{linear_row, form_of, quadratic_of}
use Rattle.model.proofs.Remainder.{within_upto}
use Rattle.model.proofs.RawPoint.{image-scaled, raw_point}
use Rattle.model.proofs.Rounded.{rounded_point}
use Rattle.model.proofs.SumPoints.{added_radius, near_moved}

-- what is near is off by the difference
difference_within : {x v r : ℚ} → Near x v r → Within (x -ℚ v) r
difference_within {x} {v} {r} n = subst (λ z. Within z r) (sym (minus_is x v n.off (sym n.is))) n.small

module _ (p : Step) (A : ℕ → Vector) (Q : ℕ → ℕ → Vector) (x : Vector) where
  -- by how much the coefficients differ from the entries
  linear_off : ℕ → Vector
  linear_off i j = A i j -ℚ linear_row p i j

  quadratic_off : ℕ → ℕ → Vector
  quadratic_off i j l = Q i j l -ℚ form_of p i j l

  -- and what that comes to, in raw units
  off : Vector
  off i = quadratic (places p.columns) (quadratic_off i) (ι (pos 4096)) (linear_off i) x

  scaled-off : (i : ℕ) → ι (pos scale) *ℚ image p x i +ℚ off i ≡ ι (pos scale) *ℚ image_by p A Q x i
  unfolding image linear_off quadratic_off off ◌⊕◌
  scaled-off i =
      let c = ι (pos scale) *ℚ ι (at p.constant i) in
      ap (◌+ℚ off i) (image-scaled p (linear_row p) (form_of p) i x) ∙ +ℚ-assoc c (quadratic_of p i x) (off i)
      ∙ ap (c +ℚ◌) (sym (quadratic-+ (places p.columns) (form_of p i) (quadratic_off i) (ι (pos 4096)) (linear_row p i) (linear_off i) x)
      ∙ ap₂ (λ q a. quadratic (places p.columns) q (ι (pos 4096)) a x)
      (fun_ext (λ j. fun_ext (λ l. gap_eq (form_of p i j l) (Q i j l)))) (fun_ext (λ j. gap_eq (linear_row p i j) (A i j))))
      ∙ sym (image-scaled p A Q i x)

  -- at most the gain, where x is within the spans
  off-within : (d : Widths) (s : Zonotope) (i : ℕ) → i < p.rows → InWidths p d A Q
      → ((j : ℕ) → j < p.columns → Within (x j) (ι (pos (span s j)))) → Within (off i) (ι (pos (gain p.columns d s i)))
  unfolding off linear_off quadratic_off quadratic dot_ℚ gain
  off-within d s i below near small =
      within_as (within-+ linear crossed) (ap₂ ◌+ℚ◌ (sum-* (ι (pos 4096)) (λ j. linear_off i j *ℚ x j) (places p.columns))
      (sym (bilinear_double (places p.columns) (quadratic_off i) x x))) (sym (ι-+ℕ _ _))
    where
      linear : Within (sum (λ j. ι (pos 4096) *ℚ (linear_off i j *ℚ x j)) (places p.columns))
          (ι (pos (upto_ℕ (λ j. 4096 * (linear_width p.columns d i j * span s j)) p.columns)))
      linear = within_upto (λ j. 4096 * (linear_width p.columns d i j * span s j)) p.columns (λ j h.
          within_as (within-* (within-ι (pos 4096)) (within-* (difference_within (near.linear i j below h)) (small j h))) refl
          (sym (ι-*ℕ 4096 _ ∙ ap (ι (pos 4096) *ℚ◌) (ι-*ℕ (linear_width p.columns d i j) (span s j)))))

      crossed : Within (sum (λ j. sum (λ l. quadratic_off i j l *ℚ (x j *ℚ x l)) (places p.columns)) (places p.columns))
          (ι (pos (upto_ℕ (λ j. upto_ℕ (λ l. quadratic_width p.columns d i j l * (span s j * span s l)) p.columns) p.columns)))
      crossed = within_upto _ p.columns (λ j h. within_upto
          (λ l. quadratic_width p.columns d i j l * (span s j * span s l)) p.columns (λ l k.
          within_as (within-* (difference_within (near.quadratic i j l below h k)) (within-* (small j h) (small l k))) refl
          (sym (ι-*ℕ (quadratic_width p.columns d i j l) _
          ∙ ap (ι (pos (quadratic_width p.columns d i j l)) *ℚ◌) (ι-*ℕ (span s j) (span s l))))))

-- an offset within what the remainders gain leaves a point in the image
gaining_point : (gains : ℕ → ℕ) (p : Step) (s : Zonotope) {α x d : Vector} → ((i : ℕ) → i < p.rows → Within (d i) (ι (pos (gains i))))
    → Point (in_raw_units (raw p s)) α x → Point (in_raw_units (gaining_raw gains p s)) α (λ i. x i +ℚ d i)
unfolding raw value_at
gaining_point gains p s {α} {x} {d} w pt = record {
  numbers = pt.numbers;
  one_each = pt.one_each;
  in_range = pt.in_range;
  near = λ i h. near_as (near_moved (pt.near i h) (w i h)) refl (added_radius (radius (in_raw_units (raw p s)) i) (gains i) (omega (
    arith,
    raw_units_radius (raw p s) i,
    raw_units_radius (gaining_raw gains p s) i,
    get_d_tab p.rows (remainder p s) 0 i h,
    get_d_tab p.rows (λ j. remainder p s j + gains j) 0 i h,
  )));
}

-- the exact image of a point, under coefficients within the half-widths, is a point of the rounded image at the same factor values
pub ranged_point : (p : Step) (d : Widths) (s : Zonotope) {A : ℕ → Vector} {Q : ℕ → ℕ → Vector} {α x : Vector} → s.dimension ≡ p.columns
    → InRange α → InWidths p d A Q → Point s α x
    → Point (rounded (ranged_raw p d s)) α (image_by p A Q x)
ranged_point p d s {A} {Q} {α} {x} e w near pt =
    rounded_point (image_by p A Q x) w (subst (Point (in_raw_units (ranged_raw p d s)) α) (fun_ext (scaled-off p A Q x))
    (gaining_point (gain p.columns d s) p s
    (λ i h. off-within p A Q x d s i h near (λ j k. point_within s j w pt (subst (j <◌) (sym e) k))) (raw_point p s e w pt)))
