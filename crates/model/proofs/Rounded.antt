-- The second stage of a step, of any image in raw units: where 16,777,216·x is a point of it, x is a point of the image rounded.
use mathlib.Core.Path.{◌≡◌, refl, sym, ◌∙◌, ap, ap₂, subst}
use mathlib.Core.List.{List, ◌++◌, map, map-append}
use Prim.Native.Nat.{ℕ, ◌+◌, ◌*◌, ◌≤◌, ◌<◌}
use native.Mathlib.Omega.{arith}
use lib.ListN.{length, get_or, length-map, get_or-map}
use lib.IntN.{ℤ, pos, ◌+ℤ◌, ◌-ℤ◌, ◌*ℤ◌}
use Rattle.whole.specs.AsNaturals.{as_ℕ}
use Rattle.whole.specs.Round.{scale, round, inexact, round_loses, round_multiple}
use Rattle.whole.specs.Sum.{sum_ℕ, monoid_ℕ}
use Rattle.whole.specs.Sum as W
use Rattle.whole.specs.Tab.{get_d_tab}
use Rattle.rational.specs.Rational.{ℚ, ◌+ℚ◌, ◌*ℚ◌, ι, ◌over◌, 1ℚ, NonNeg, ◌≤ℚ◌}
use Rattle.rational.proofs.Ring.{*ℚ-assoc, *ℚ-comm, one-*ℚ, *ℚ-+ℚ, +ℚ-*ℚ}
use Rattle.rational.proofs.Pinned.{ι-+, ι-*, over-*}
use Rattle.rational.proofs.Sign.{NonNeg-over}
use Rattle.rational.proofs.Order.{≤ℚ-refl, ι-mono}
use Rattle.rational.specs.Bounds.{Within}
use Rattle.rational.proofs.Bounds.{within-*, within_mono, within-ι, within-scaled, within-NonNeg}
use Rattle.rational.specs.Near.{Near}
use Rattle.rational.proofs.Near.{near-+, near_trans, near_mono, near_as}
use Rattle.rational.specs.Sum.{All}
use Rattle.rational.proofs.Sum.{sum-*, sum_cong, sum_near, All-imp, All-++}
use Rattle.model.specs.Set.{at, radius, radius_of}
use Rattle.model.specs.Step.{RawImage, inexact_at, carried_at, rounded_at, rounded}
use Rattle.model.specs.Points.{Vector, value_at, Point, InRange}
use Rattle.model.proofs.Radii.{blank-at}
use Rattle.model.proofs.RawUnits.{in_raw_units, raw_units_radius}
use Rattle.model.proofs.Parts.{Part, term_parts, generator_parts, parts_of, spread, value-parts, Ranged, terms-ranged}
use Rattle.model.proofs.Parts.{generators_ranged}
use Rattle.model.proofs.WholeForms.{ι-+ℕ, ι-*ℕ}
use Rattle.model.proofs.PartMaps.{through, term_parts-map, generator_parts-map, spread-map, term_parts-sum, generator_parts-sum}
use Rattle.model.proofs.PartMaps.{ι-sum_ℕ}

-- ---- one number, and parts
ι-round : (v : ℤ) → Near (ι v) (ι (pos scale) *ℚ ι (round v)) (ι (pos 8388608) *ℚ ι (pos (inexact v)))
ι-round v = record {
  off = ι (v -ℤ pos scale *ℤ round v);
  small = subst (Within _) (ι-* (pos 8388608) (pos (inexact v)))
      (within_mono (within-ι (v -ℤ pos scale *ℤ round v)) (ι-mono (round_loses v)));
  is = ap ι (rest v (pos scale *ℤ round v)) ∙ ι-+ (pos scale *ℤ round v) (v -ℤ pos scale *ℤ round v)
      ∙ ap (◌+ℚ ι (v -ℤ pos scale *ℤ round v)) (ι-* (pos scale) (round v));
}
  where
    rest : (v w : ℤ) → v ≡ w +ℤ (v -ℤ w)
    rest v w = simp as_ℕ (omega arith)

near_scaled : {x v r μ : ℚ} → Near x v r → Within μ 1ℚ → Near (x *ℚ μ) (v *ℚ μ) r
near_scaled {v = v} {μ = μ} n w = record {
  off = n.off *ℚ μ;
  small = within-scaled n.small w;
  is = ap (◌*ℚ μ) n.is ∙ +ℚ-*ℚ v n.off μ;
}

at-round : (v : List ℤ) (i : ℕ) → at (map round v) i ≡ round (at v i)
at-round v i = subst (λ z. at_or z ≡ round (at v i)) (round_multiple (pos 0)) (get_or-map round v i (pos 0))
  where
    at_or : ℤ → ℤ
    at_or z = get_or (map round v) i z

-- how many numbers of coordinate i are not rounded exactly
abbrev inexact_parts : List Part → ℕ → ℕ
inexact_parts ps i = sum_ℕ (λ p. inexact (at p.vector i)) ps

round-spread : {ps : List Part} → All Ranged ps → (i : ℕ)
    → Near (spread ps i) (ι (pos scale) *ℚ spread (map (through (map round)) ps) i) (ι (pos 8388608) *ℚ ι (pos (inexact_parts ps i)))
unfolding spread
round-spread {ps} h i = near_as (sum_near (All-imp (λ p r. near_scaled (ι-round (at p.vector i)) r.in_one) h))
    (sum_cong _ _ ps (λ p. *ℚ-assoc _ _ _ ∙ ap (λ z. ι (pos scale) *ℚ (ι z *ℚ p.times)) (sym (at-round p.vector i)))
    ∙ sum-* (ι (pos scale)) _ ps ∙ ap (ι (pos scale) *ℚ◌) (sym (spread-map (map round) ps i)))
    (sum-* (ι (pos 8388608)) _ ps ∙ ap (ι (pos 8388608) *ℚ◌) (sym (ι-sum_ℕ (λ p. inexact (at p.vector i)) ps)))

-- ---- an image
module _ (r : RawImage) (α : Vector) (bs : List ℚ) where
  rounded-parts : parts_of (rounded r) α bs ≡ map (through (map round)) (parts_of (in_raw_units r) α bs)
  unfolding rounded
  rounded-parts =
      ap₂ ◌++◌ (term_parts-map (map round) α r.identifiers r.terms) (generator_parts-map (map round) r.generators bs)
      ∙ sym (map-append (through (map round)) (term_parts α r.identifiers r.terms) (generator_parts r.generators bs))

  inexact-parts : (i : ℕ) → length bs ≡ length r.generators
      → inexact (at r.centre i) + inexact_parts (parts_of (in_raw_units r) α bs) i ≡ inexact_at r i
  unfolding inexact_at
  inexact-parts i e =
      let t = term_parts α r.identifiers r.terms in let g = generator_parts r.generators bs in
      let a = W.sum-++ monoid_ℕ (λ p. inexact (at p.vector i)) t g in
      let b = term_parts-sum (λ v. inexact (at v i)) α r.identifiers r.terms in
      let c = generator_parts-sum (λ v. inexact (at v i)) r.generators bs e in
      omega arith

  -- the value of the image and 16,777,216 times that of the image rounded are half a unit apart for each inexact rounding
  pub round-value : InRange α → length bs ≡ length r.generators → All (λ b. Within b 1ℚ) bs → (i : ℕ)
      → Near (value_at (in_raw_units r) α bs i) (ι (pos scale) *ℚ value_at (rounded r) α bs i) (ι (pos 8388608) *ℚ ι (pos (inexact_at r i)))
  unfolding rounded
  round-value w e h i = record { off = n.off; small = n.small; is = value-parts (in_raw_units r) α bs i ∙ n.is }
    where
      parts : All Ranged (parts_of (in_raw_units r) α bs)
      parts = All-++ (terms-ranged w r.identifiers r.terms) (generators_ranged r.generators h)

      value : value_at (rounded r) α bs i
          ≡ ι (round (at r.centre i)) +ℚ spread (map (through (map round)) (parts_of (in_raw_units r) α bs)) i
      value = value-parts (rounded r) α bs i ∙ ap₂ ◌+ℚ◌ (ap ι (at-round r.centre i)) (ap (λ l. spread l i) rounded-parts)

      count : ι (pos (inexact_at r i)) ≡ ι (pos (inexact (at r.centre i))) +ℚ ι (pos (inexact_parts (parts_of (in_raw_units r) α bs) i))
      count = ap (λ m. ι (pos m)) (sym (inexact-parts i e)) ∙ ι-+ (pos _) (pos _)

      n : Near (ι (at r.centre i) +ℚ spread (parts_of (in_raw_units r) α bs) i) (ι (pos scale) *ℚ value_at (rounded r) α bs i)
          (ι (pos 8388608) *ℚ ι (pos (inexact_at r i)))
      n = near_as (near-+ (ι-round (at r.centre i)) (round-spread parts i))
          (sym (ap (ι (pos scale) *ℚ◌) value ∙ *ℚ-+ℚ _ _ _)) (sym (ap (ι (pos 8388608) *ℚ◌) count ∙ *ℚ-+ℚ _ _ _))

-- ---- from raw units to units of the last place
pub near_times : {x v r c : ℚ} → NonNeg c → Near x v r → Near (c *ℚ x) (c *ℚ v) (c *ℚ r)
near_times {v = v} {c = c} h n = record {
  off = c *ℚ n.off;
  small = within-* (within-NonNeg h (≤ℚ-refl c)) n.small;
  is = ap (c *ℚ◌) n.is ∙ *ℚ-+ℚ c v n.off;
}

pub unscale : {y v b : ℚ} (c : ℚ) → Near (ι (pos scale) *ℚ y) (ι (pos scale) *ℚ v) b → b ≤ℚ ι (pos scale) *ℚ c → Near y v c
unscale {y} {v} c n le = subst (λ a. Near a v c) (back y)
    (near_as (near_times (NonNeg-over 1 scale) (near_mono n le)) (back v) (back c))
  where
    back : (a : ℚ) → pos 1 over scale *ℚ (ι (pos scale) *ℚ a) ≡ a
    back a = sym (*ℚ-assoc _ _ _) ∙ ap (◌*ℚ a) (*ℚ-comm _ _ ∙ over-* (pos 1) scale (omega arith)) ∙ one-*ℚ a

-- an order of whole numbers, in other words
pub ≤-whole : (m n : ℕ) {a b : ℚ} → ι (pos m) ≡ a → ι (pos n) ≡ b → m ≤ n → a ≤ℚ b
≤-whole m n {a} e f h = subst (a ≤ℚ◌) f (subst (◌≤ℚ ι (pos n)) e (ι-mono h))

-- the radius of the image rounded: what is carried, and what rounding adds
pub rounded-radius : (r : RawImage) (i : ℕ) → i < r.dimension → radius (rounded r) i ≡ carried_at r i + rounded_at r i
unfolding rounded radius_of
rounded-radius r i h =
    omega (arith, get_d_tab r.dimension (carried_at r) 0 i h, get_d_tab r.dimension (rounded_at r) 0 i h, blank-at r.dimension i)

-- S over the scale and half the count, each rounded up, are enough
radius_enough : (r : RawImage) (i : ℕ)
    → ι (pos (radius (in_raw_units r) i)) +ℚ ι (pos 8388608) *ℚ ι (pos (inexact_at r i))
    ≤ℚ ι (pos scale) *ℚ ι (pos (carried_at r i + rounded_at r i))
unfolding carried_at rounded_at
radius_enough r i = ≤-whole (radius (in_raw_units r) i + 8388608 * inexact_at r i) (scale * (carried_at r i + rounded_at r i))
    (simp (ι-+ℕ, ι-*ℕ)) (ι-*ℕ scale (carried_at r i + rounded_at r i)) (omega (arith, raw_units_radius r i))

-- where 16,777,216·x is a point of an image, x is a point of the image rounded
pub rounded_point : {r : RawImage} {α : Vector} (x : Vector) → InRange α → Point (in_raw_units r) α (λ i. ι (pos scale) *ℚ x i)
    → Point (rounded r) α x
unfolding rounded
rounded_point {r} {α} x w pt = record {
  numbers = pt.numbers;
  one_each = pt.one_each ∙ sym (length-map r.generators (map round));
  in_range = pt.in_range;
  near = λ i h. near_as (unscale (ι (pos (carried_at r i + rounded_at r i))) (near_trans (pt.near i h)
      (round-value r α pt.numbers w pt.one_each pt.in_range i)) (radius_enough r i))
      refl (ap (λ m. ι (pos m)) (sym (rounded-radius r i h)));
}
