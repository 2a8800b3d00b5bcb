-- The radii of the rounded blend of two accepted records: the larger independent part is carried, and rounding adds half the count of its
-- inexact roundings.
use Rattle.std.specs.Prelude.{◌≡◌, List, [], ℕ, ◌+◌, ◌*◌, ◌/◌, ◌^◌, ◌<◌, ◌≤◌, length, replicate, ℤ, pos}
use Rattle.std.proofs.Math.Path.{refl, sym, ap, ap₂}
use Rattle.std.proofs.Common.{◌∙◌}
use Rattle.std.proofs.Math.Decide.{dec_lt}
use native.Mathlib.Omega.{arith}
use Rattle.std.proofs.Math.ListN.{get_or}
use Rattle.whole.specs.Round.{scale}
use Rattle.whole.specs.Tab.{tab, tab_cong, get_d_tab, get_d_tab_past}
use Rattle.model.specs.Set.{independent_size}
use Rattle.model.specs.Step.{RawImage, rounded, carried_at, rounded_at, inexact_at}
use Rattle.model.specs.Hull.{larger, blended}
use Rattle.zonotope.specs.declared.PolyZonotope.{PolyZonotope}
use Rattle.zonotope.specs.declared.WideRadii.{WideRadii}
use Rattle.zonotope.specs.Record.{wide_parts_of, totals_of, anew, firsts, first_parts, view}
use Rattle.zonotope.specs.View.{anew-rounded}
use Rattle.zonotope.specs.Counts.{countable}
use Rattle.raw.specs.Accepted.{InSpan}
use Rattle.raw.specs.Kept.{kept-all}
use Rattle.raw.specs.Parts.{wide_vectors}
use Rattle.image.specs.Remainder.{Below, spread}
use Rattle.image.specs.Radii.{independent_are, independent_below}
use Rattle.image.specs.Rounding.{inexact_of, half_up}
use Rattle.image.specs.Counted.{counted, counts-below, halves_below}
use Rattle.model.proofs.StepShape.{inexact_past}
use Rattle.model.proofs.HullShape.{blended_shaped}
use Rattle.finish.specs.Held.{PartsUnder}
use Rattle.answers.specs.Accepted.{AcceptedRecord, ready}
use Rattle.answers.specs.Finishing.{anew_under}
use Rattle.summing.specs.Summable.{Summable}
use Rattle.hulling.specs.Blended.{Blended}
use Rattle.hulling.specs.Radii.{larger_part, larger_parts, parts_small}

-- the independent part of each coordinate
abbrev pub parts : PolyZonotope → List ℕ
parts s = tab 6 (spread s.vectors s.generators (totals_of s.radii))

-- the inexact roundings of each coordinate: of the raw rows and the centre, since a blend has no generators
abbrev pub roundings : List ℤ → ℕ → List ℤ → List ℕ
roundings w rows centre = tab 6 (inexact_of w rows centre (replicate 144 (pos 0)) 0)

-- what rounding adds, half of each count, and the radii
abbrev pub halves_of : List ℕ → List ℕ
halves_of counts = tab 6 (λ i. half_up (get_or counts i 0))

abbrev pub blend_radii : PolyZonotope → PolyZonotope → List ℤ → ℕ → List ℤ → WideRadii
blend_radii a b w rows centre = anew (larger_parts a.dimension (parts a) (parts b)) (halves_of (roundings w rows centre))

-- ---- an accepted record
module _ (s : PolyZonotope) (ok : AcceptedRecord s) where
  pub coordinates_few : s.dimension ≤ 6
  unfolding view
  coordinates_few = (countable (view s) ok.passed.counts).dimension

  -- as far as the independent part needs it
  pub for_parts : InSpan s
  for_parts = record {
    counts = ok.passed.counts;
    range = ok.passed.range;
    unused = ok.passed.full;
    narrow = ok.passed.narrow;
  }

  pub parts_below : Below 1048576 (parts s)
  parts_below = independent_below s for_parts

  part_at : (i : ℕ) → i < 6 → get_or (parts s) i 0 ≡ independent_size (view s) i
  part_at i l = get_d_tab 6 (spread s.vectors s.generators (totals_of s.radii)) 0 i l ∙ independent_are s for_parts i l

-- ---- the counts
pub roundings-below : (w : List ℤ) (rows : ℕ) (centre : List ℤ) → rows ≤ 161 → Below 4294967296 (roundings w rows centre)
roundings-below w rows centre few =
    counts-below w centre (replicate 144 (pos 0)) rows 0 (roundings w rows centre) refl (omega arith) (omega arith)

no_vectors : replicate 144 (pos 0) ≡ wide_vectors []
unfolding tab
no_vectors = refl

module _ (a b : PolyZonotope) (h : Summable a b) (next : ℕ) {f : List ℕ} {w centre : List ℤ}
    (d : Blended (view a) (view b) a.terms b.terms f w centre) where
  abbrev rows : ℕ
  rows = 1 + ((a.terms + b.terms) + (a.terms + b.terms))

  abbrev z : RawImage
  z = blended next (view a) (view b)

  pub blend-radii_small : PartsUnder (2 ^ 40) (blend_radii a b w rows centre)
  blend-radii_small =
      let few = d.few in
      let larger = parts_small a.dimension (parts_below a h.first) (parts_below b h.second) in
      let halves = halves_below _ _ (roundings-below w rows centre (omega arith)) refl in
      anew_under _ _ (λ i. omega (arith, larger.below i)) (λ i. omega (arith, halves.below i))

  module _ (lw : rows * 6 ≤ length w) where
    count_at : (i : ℕ) → i < 6 → get_or (roundings w rows centre) i 0 ≡ inexact_at z i
    unfolding blended
    count_at i l =
        get_d_tab 6 (inexact_of w rows centre (replicate 144 (pos 0)) 0) 0 i l
        ∙ counted z f w centre (replicate 144 (pos 0)) rows 0 lw refl (omega arith) (kept-all (d.terms next)) (d.centre_is next)
        no_vectors i l

    -- ---- the radii
    carried-at : (i : ℕ) → i < 6 → i < a.dimension → larger_part (parts a) (parts b) i ≡ carried_at z i
    unfolding carried_at blended view
    carried-at i l m =
        ap₂ larger (part_at a h.first i l) (part_at b h.second i l)
        ∙ sym (ap (λ (n : ℕ). (n + 16777215) / scale) (get_d_tab a.dimension _ 0 i m)
        ∙ whole (larger (independent_size (view a) i) (independent_size (view b) i)))
      where
        whole : (n : ℕ) → (scale * n + 16777215) / scale ≡ n
        whole n = omega arith

    carried_are : larger_parts a.dimension (parts a) (parts b) ≡ firsts 6 (rounded z).radii.carried
    unfolding rounded blended view
    carried_are =
        let few = coordinates_few a h.first in
        ap (firsts 6) (tab_cong a.dimension _ _ (λ i m. carried-at i (omega arith) m))

    -- past the coordinates nothing is rounded
    rounded-at : (i : ℕ) → i < 6 → half_up (get_or (roundings w rows centre) i 0) ≡ get_or (tab z.dimension (rounded_at z)) i 0
    unfolding rounded_at blended view
    rounded-at i l = ap half_up (count_at i l) ∙ go (dec_lt i z.dimension)
      where
        go : Dec (i < z.dimension) → half_up (inexact_at z i) ≡ get_or (tab z.dimension (rounded_at z)) i 0
        go (yes m) = sym (get_d_tab z.dimension (rounded_at z) 0 i m)
        go (no m) =
            ap half_up (inexact_past (blended_shaped next (ready a h.first) (ready b h.second) h.same) i (omega arith))
            ∙ sym (get_d_tab_past z.dimension (rounded_at z) 0 i (omega arith))

    rounded_are : halves_of (roundings w rows centre) ≡ firsts 6 (rounded z).radii.rounded
    unfolding rounded
    rounded_are = tab_cong 6 _ _ rounded-at

    pub radii_are : wide_parts_of (blend_radii a b w rows centre) ≡ first_parts 6 (rounded z).radii
    radii_are = anew-rounded z carried_are rounded_are
