-- The first stage of a step: the exact image of a point, in raw units, is a point of the raw image at the same factor values.
use mathlib.Core.Path.{◌≡◌, refl, sym, ◌∙◌, ap, ap₂, subst, fun_ext}
use mathlib.Core.List.{List}
use Prim.Native.Nat.{ℕ, ◌<◌}
use native.Mathlib.Omega.{arith}
use lib.ListN.{length, length-map}
use lib.IntN.{pos}
use Rattle.whole.specs.Round.{scale}
use Rattle.whole.specs.Tab.{tab, get_d_tab}
use Rattle.rational.specs.Rational.{ℚ, ◌+ℚ◌, ◌*ℚ◌, ◌-ℚ◌, ι, ◌over◌, 1ℚ}
use Rattle.rational.proofs.Ring.{ring, +ℚ-assoc, *ℚ-assoc, *ℚ-one, one-*ℚ, minus_is}
use Rattle.rational.proofs.Pinned.{ι-+, ι-*, over-*}
use Rattle.rational.proofs.Order.{gap_eq}
use Rattle.rational.specs.Bounds.{Within}
use Rattle.rational.proofs.Bounds.{within-+}
use Rattle.rational.specs.Near.{Near}
use Rattle.rational.proofs.Near.{near_as}
use Rattle.rational.specs.Sum.{All}
use Rattle.model.specs.Set.{Zonotope, at, radius, independent_size}
use Rattle.model.specs.Step.{Step, raw, raw_linear, remainder}
use Rattle.model.specs.Points.{Vector, value_at, Point, InRange}
use Rattle.model.specs.Motion.{places, image_by, image}
use Rattle.model.proofs.RawUnits.{in_raw_units, raw_units_radius}
use Rattle.model.proofs.Parts.{term_parts, generator_parts, spread, terms-spread, generators_spread}
use Rattle.model.proofs.Forms.{◌⊕◌, dot_ℚ, row, bilinear_ℚ, quadratic, expand}
use Rattle.model.proofs.PartMaps.{coordinates}
use Rattle.model.proofs.Spans.{terms-within, generators_within}
use Rattle.model.proofs.Raw.{linear_row, form_of, quadratic_of, bilinear_of, about_of, raw-value}
use Rattle.model.proofs.Remainder.{remainder-within}

-- the exact image in raw units, under any coefficients: 16,777,216·c + 4096·Ax + Q(x, x)
pub image-scaled : (p : Step) (A : ℕ → Vector) (Q : ℕ → ℕ → Vector) (i : ℕ) (x : Vector)
    → ι (pos scale) *ℚ image_by p A Q x i
    ≡ ι (pos scale) *ℚ ι (at p.constant i) +ℚ quadratic (places p.columns) (Q i) (ι (pos 4096)) (A i) x
unfolding quadratic bilinear_ℚ row dot_ℚ
image-scaled p A Q i x =
    let form = bilinear_ℚ (places p.columns) (Q i) x x in
    multiplied (ι (pos scale)) (ι (at p.constant i)) (pos 1 over 4096) _ (pos 1 over scale) _
    ∙ ap₂ (λ y z. ι (pos scale) *ℚ ι (at p.constant i) +ℚ (y *ℚ dot_ℚ (places p.columns) (A i) x +ℚ z *ℚ form))
    once (over-* (pos 1) scale (omega arith))
    ∙ ap (λ z. ι (pos scale) *ℚ ι (at p.constant i) +ℚ (ι (pos 4096) *ℚ dot_ℚ (places p.columns) (A i) x +ℚ z)) (one-*ℚ form)
  where
    multiplied : (u c o d w b : ℚ) → u *ℚ (c +ℚ o *ℚ d +ℚ w *ℚ b) ≡ u *ℚ c +ℚ (u *ℚ o *ℚ d +ℚ u *ℚ w *ℚ b)
    multiplied u c o d w b = simp ring

    once : ι (pos scale) *ℚ pos 1 over 4096 ≡ ι (pos 4096)
    once =
        ap (◌*ℚ pos 1 over 4096) (ι-* (pos 4096) (pos 4096)) ∙ *ℚ-assoc _ _ _
        ∙ ap (ι (pos 4096) *ℚ◌) (over-* (pos 1) 4096 (omega arith)) ∙ *ℚ-one (ι (pos 4096))

-- one coordinate: the scaled image of what is near the set's value is near the raw image's value, by the remainder
raw_near : (p : Step) (s : Zonotope) (i : ℕ) → i < p.rows → {α x : Vector} → InRange α → (bs : List ℚ)
    → length bs ≡ length s.generators → All (λ b. Within b 1ℚ) bs
    → ((j : ℕ) → j < p.columns → Near (x j) (value_at s α bs j) (ι (pos (radius s j))))
    → Near (ι (pos scale) *ℚ image p x i) (value_at (in_raw_units (raw p s)) α bs i) (ι (pos (remainder p s i)))
unfolding image ◌⊕◌ value_at
raw_near p s i below {α} {x} w bs e r near = record {
  off = rest;
  small = remainder-within p s i (λ j _. terms-within s j w) g_in δ-in;
  is = image-scaled p (linear_row p) (form_of p) i x ∙ ap (λ v. ι (pos scale) *ℚ ι (at p.constant i) +ℚ quadratic_of p i v) (fun_ext x_is)
      ∙ ap (ι (pos scale) *ℚ ι (at p.constant i) +ℚ◌) (expand (places p.columns) (form_of p i) (ι (pos 4096)) (linear_row p i) K T G δ)
      ∙ regroup _ _ _ _ rest ∙ ap (◌+ℚ rest) (sym (raw-value p i s below α bs));
}
  where
    K : Vector
    K = coordinates s.centre

    T : Vector
    T = spread (term_parts α s.identifiers s.terms)

    G : Vector
    G = spread (generator_parts s.generators bs)

    δ : Vector
    δ j = x j -ℚ value_at s α bs j

    rest : ℚ
    rest = about_of p i K δ +ℚ (bilinear_of p i T (G ⊕ δ) +ℚ bilinear_of p i (G ⊕ δ) T +ℚ bilinear_of p i (G ⊕ δ) (G ⊕ δ))

    x_is : (j : ℕ) → x j ≡ (K ⊕ T ⊕ (G ⊕ δ)) j
    x_is j =
        sym (gap_eq (value_at s α bs j) (x j))
        ∙ ap (◌+ℚ δ j) (ap₂ (λ a b. K j +ℚ a +ℚ b) (terms-spread α s.identifiers s.terms j) (generators_spread s.generators bs j))
        ∙ +ℚ-assoc (K j +ℚ T j) (G j) (δ j)

    δ-in : (j : ℕ) → j < p.columns → Within (δ j) (ι (pos (radius s j)))
    δ-in j h = subst (λ z. Within z (ι (pos (radius s j))))
        (sym (minus_is (x j) (value_at s α bs j) (near j h).off (sym (near j h).is))) (near j h).small

    g_in : (j : ℕ) → j < p.columns → Within ((G ⊕ δ) j) (ι (pos (independent_size s j)))
    g_in j h = subst (Within (G j +ℚ δ j)) (sym (ι-+ (pos _) (pos (radius s j)))) (within-+ (generators_within s j e r) (δ-in j h))

    regroup : (a b c d f : ℚ) → a +ℚ (b +ℚ c +ℚ d +ℚ f) ≡ a +ℚ b +ℚ c +ℚ d +ℚ f
    regroup a b c d f = simp ring

-- the scaled image of what is near the set's value is a point of the raw image
pub raw-image : (p : Step) (s : Zonotope) {α x : Vector} → InRange α → (bs : List ℚ)
    → length bs ≡ length s.generators → All (λ b. Within b 1ℚ) bs
    → ((j : ℕ) → j < p.columns → Near (x j) (value_at s α bs j) (ι (pos (radius s j))))
    → Point (in_raw_units (raw p s)) α (λ i. ι (pos scale) *ℚ image p x i)
unfolding raw
raw-image p s w bs e r near = record {
  numbers = bs;
  one_each = e ∙ sym (length-map s.generators (λ g. tab p.rows (raw_linear p s g)));
  in_range = r;
  near = λ i h. near_as (raw_near p s i h w bs e r near) refl
      (ap (λ m. ι (pos m)) (sym (raw_units_radius (raw p s) i ∙ get_d_tab p.rows (remainder p s) 0 i h)));
}

-- the scaled image of a point is a point of the raw image
pub raw_point : (p : Step) (s : Zonotope) {α x : Vector} → s.dimension ≡ p.columns → InRange α → Point s α x
    → Point (in_raw_units (raw p s)) α (λ i. ι (pos scale) *ℚ image p x i)
raw_point p s d w pt = raw-image p s w pt.numbers pt.one_each pt.in_range (λ j h. pt.near j (subst (j <◌) (sym d) h))
