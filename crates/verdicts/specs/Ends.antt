-- The ends of all coordinates, by the places of the record's arrays. One definition has both ends: the high one where `up` is true.
use Rattle.std.specs.Prelude.{◌≡◌, refl, List, Bool, length, get_or, replicate, ℤ, negsuc, ◌-ℤ◌}
use Rattle.std.proofs.Common.{subst, to_z, of_z, to_z-of_z, w64}
use mir.Facts.{to_z_pos}
use Rattle.whole.specs.Fits.{fits_abs}
use Rattle.whole.specs.Size.{abs_add}
use Rattle.whole.specs.Write.{write, write-after, write-all}
use mir.Val.{SFits}
use Rattle.std.proofs.Common.{sym, ◌∙◌, arith}
use Rattle.std.proofs.Math.Path.{ap, ap₂}
use Rattle.std.proofs.Math.Bool.{true, false}
use Prim.Native.Nat.{ℕ, ◌+◌, ◌*◌, ◌<◌, ◌≤◌}
use Rattle.std.proofs.Math.Decide.{dec_lt}
use Rattle.std.proofs.Math.IntN.{pos, nat_abs, ◌+ℤ◌}
use Rattle.std.specs.Int.{int_max}
use Rattle.std.proofs.lemmas.Int.{ints, clamps}
use Rattle.whole.specs.Sum.{monoid_ℕ, monoid_ℤ, sum_ℕ, sum_ℤ, upto_by, upto_ℤ, upto_cong}
use Rattle.whole.specs.Tab.{tab, get_d_tab, get_d_tab_past}
use Rattle.model.specs.Set.{Zonotope, at, radius}
use Rattle.model.specs.Finish.{all_even}
use Rattle.model.specs.Operations.{least, greatest, low_end, high_end, low, high}
use Rattle.arrays.specs.Rows.{row, column_sizes, sum-tab}
use Rattle.arrays.specs.Columns.{columns, columns-again}
use Rattle.zonotope.specs.declared.PolyZonotope.{PolyZonotope}
use Rattle.zonotope.specs.Record.{view, totals_of}
use Rattle.zonotope.specs.View.{row_at, view-radius}
use Rattle.verdicts.specs.Six.{six, six_cong}
use Rattle.verdicts.specs.Along.{least_size, subtract_size}

-- the end of a coordinate
abbrev pub end_of : Bool → Zonotope → ℕ → ℤ
end_of false = low
end_of true = high

-- what a coefficient contributes to it
abbrev pub extreme : Bool → Bool → ℤ → ℤ
extreme false = least
extreme true = greatest

-- the end that lies w from x
abbrev pub reached : Bool → ℤ → ℕ → ℤ
reached false x w = x -ℤ pos w
reached true x w = x +ℤ pos w

-- what row t contributes to the end of coordinate i, with p factors
abbrev pub row_extreme : Bool → List ℕ → List ℤ → ℕ → ℕ → ℕ → ℤ
row_extreme up exponents coefficients p t i = extreme up (all_even (row 12 0 exponents t p)) (at coefficients (t * 6 + i))

-- ---- the greatest contribution of an even monomial
pub greatest_even : (g : ℤ) → int_max g (pos 0) ≡ greatest true g
unfolding greatest
greatest_even (pos n) = let all : int_max (pos n) (pos 0) ≡ pos n = omega (arith, ints, clamps) in all
greatest_even (negsuc n) = refl

-- ---- sizes
pub extreme-size : (up b : Bool) (g : ℤ) → nat_abs (extreme up b g) ≤ nat_abs g
unfolding greatest
extreme-size false b g = least_size b g
extreme-size true true (pos n) = omega arith
extreme-size true true (negsuc n) = omega arith
extreme-size true false g = omega arith

-- a table none of whose numbers exceeds b in size
pub tab_small : (n : ℕ) (f : ℕ → ℤ) (b : ℕ) → ((i : ℕ) → i < n → nat_abs (f i) ≤ b) → (i : ℕ) → nat_abs (at (tab n f) i) ≤ b
tab_small n f b h i = go (dec_lt i n)
  where
    go : Dec (i < n) → nat_abs (at (tab n f) i) ≤ b
    go (yes l) = omega (arith, ap nat_abs (get_d_tab n f (pos 0) i l), h i l)
    go (no l) = omega (arith, ap nat_abs (get_d_tab_past n f (pos 0) i (omega arith)))

-- ---- what the first t rows contribute to each of six coordinates, and the most that it can be
pub record Extremes (up : Bool) (exponents : List ℕ) (coefficients : List ℤ) (p t : ℕ) (sums : List ℤ) : Type 0 where
  pub are : sums ≡ columns (pos 0) ◌+ℤ◌ (row_extreme up exponents coefficients p) 6 t
  pub small : (i : ℕ) → nat_abs (at sums i) ≤ t * 2147483648

module _ (up : Bool) (exponents : List ℕ) (coefficients : List ℤ) (p : ℕ) where
  pub extremes_none : Extremes up exponents coefficients p 0 (replicate 6 (pos 0))
  unfolding tab upto_by
  extremes_none = record { are = refl; small = tab_small 6 (λ i. pos 0) 0 (λ i l. omega arith) }

  -- a loop's step: the next row is added
  pub extremes_again : {t : ℕ} {b : Bool} {sums r : List ℤ} → Extremes up exponents coefficients p t sums
      → b ≡ all_even (row 12 0 exponents t p) → r ≡ tab 6 (λ i. at sums i +ℤ extreme up b (at coefficients (t * 6 + i)))
      → ((i : ℕ) → nat_abs (at r i) ≤ (t + 1) * 2147483648) → Extremes up exponents coefficients p (t + 1) r
  extremes_again {t} {b} {sums} {r} h e q k = record {
    are = columns-again (pos 0) ◌+ℤ◌ (row_extreme up exponents coefficients p) 6 t sums r h.are
        (q ∙ ap (λ c. tab 6 (λ i. at sums i +ℤ extreme up c (at coefficients (t * 6 + i)))) e);
    small = k;
  }

-- ---- a row's numbers, each added to a sum
module _ (up even : Bool) (row old : List ℤ) where
  abbrev pub added : ℕ → ℤ
  added k = at old k +ℤ extreme up even (at row k)

  pub record Added (new : List ℤ) : Type 0 where
    pub are : new ≡ tab 6 added
    pub small : (i : ℕ) → nat_abs (at new i) ≤ nat_abs (at old i) + 2147483648

  -- a place that isn't written yet
  held : (i : ℕ) {new : List ℤ} → new ≡ write old 0 added i → at new i ≡ at old i
  held i {new} p = ap (λ (w : List ℤ). at w i) p ∙ write-after old 0 added (pos 0) i i (omega arith)

  -- a sum as the code makes it
  pub summed : (i : ℕ) {n : List ℤ} {d : ℤ} → n ≡ write old 0 added i → nat_abs (at old i) ≤ 40 * 2147483648 → nat_abs (at row i) ≤ 2147483648
      → d ≡ extreme up even (at row i) → to_z w64 (of_z w64 (at n i)) +ℤ to_z w64 (of_z w64 d) ≡ added i
  summed i {n} {d} p h k e =
      ap₂ ◌+ℤ◌ (ap (λ z. to_z w64 (of_z w64 z)) (held i p) ∙ to_z-of_z {w = w64} {z = at old i} (fits_abs (omega arith)))
      (ap (λ z. to_z w64 (of_z w64 z)) e
      ∙ to_z-of_z {w = w64} {z = extreme up even (at row i)} (fits_abs (omega (arith, extreme-size up even (at row i)))))

  pub fitting : (i : ℕ) → nat_abs (at old i) ≤ 40 * 2147483648 → nat_abs (at row i) ≤ 2147483648 → SFits w64 (added i)
  fitting i h k = fits_abs (omega (arith, abs_add (at old i) (extreme up even (at row i)), extreme-size up even (at row i)))

  pub landed : (i : ℕ) {n : List ℤ} {d : ℤ} → n ≡ write old 0 added i → nat_abs (at old i) ≤ 40 * 2147483648 → nat_abs (at row i) ≤ 2147483648
      → d ≡ extreme up even (at row i) → to_z w64 (of_z w64 (to_z w64 (of_z w64 (at n i)) +ℤ to_z w64 (of_z w64 d))) ≡ added i
  landed i p h k e = ap (λ z. to_z w64 (of_z w64 z)) (summed i p h k e) ∙ to_z-of_z {w = w64} {z = added i} (fitting i h k)

  pub all-added : {new : List ℤ} → length old ≡ 6 → new ≡ write old 0 added 6 → ((k : ℕ) → k < 6 → nat_abs (at row k) ≤ 2147483648) → Added new
  all-added {new} l p h =
      let is : new ≡ tab 6 added = p ∙ write-all old added (pos 0) 6 l in record {
        are = is;
        small = λ i. rw is (go i (dec_lt i 6));
      }
    where
      go : (i : ℕ) → Dec (i < 6) → nat_abs (at (tab 6 added) i) ≤ nat_abs (at old i) + 2147483648
      go i (yes m) =
          omega (
            arith,
            ap nat_abs (get_d_tab 6 added (pos 0) i m),
            abs_add (at old i) (extreme up even (at row i)),
            extreme-size up even (at row i),
            h i m,
          )
      go i (no m) = omega (arith, ap nat_abs (get_d_tab_past 6 added (pos 0) i (omega arith)))

-- ---- both ends as the code makes them: from a centre c, what the terms contribute, and a width
module _ (c m : ℤ) (w : ℕ) (cs : nat_abs c ≤ 2147483648) (ms : nat_abs m ≤ 40 * 2147483648) (ws : w ≤ 103079215100)
    (r : ℤ) (e : to_z w64 (of_z w64 r) ≡ c) where
  middle_is : to_z w64 (of_z w64 (to_z w64 (of_z w64 r) +ℤ to_z w64 (of_z w64 m))) ≡ c +ℤ m
  middle_is =
      ap (λ z. to_z w64 (of_z w64 z)) (ap₂ ◌+ℤ◌ e (to_z-of_z {w = w64} {z = m} (fits_abs (omega (arith, ms)))))
      ∙ to_z-of_z {w = w64} {z = c +ℤ m} (fits_abs (omega (arith, abs_add c m, cs, ms)))

  width_is : to_z w64 w ≡ pos w
  width_is = to_z_pos w64 (omega (arith, ws))

  low_fits : SFits w64 ((c +ℤ m) -ℤ pos w)
  low_fits = fits_abs (omega (arith, subtract_size (c +ℤ m) w, abs_add c m, cs, ms, ws))

  high_fits : SFits w64 ((c +ℤ m) +ℤ pos w)
  high_fits = fits_abs (omega (arith, abs_add (c +ℤ m) (pos w), abs_add c m, cs, ms, ws))

  pub low-fits : SFits w64 (to_z w64 (of_z w64 (to_z w64 (of_z w64 r) +ℤ to_z w64 (of_z w64 m))) -ℤ to_z w64 w)
  low-fits = subst (SFits w64) (sym (ap₂ ◌-ℤ◌ middle_is width_is)) low_fits

  pub low_made : to_z w64 (of_z w64 (to_z w64 (of_z w64 (to_z w64 (of_z w64 r) +ℤ to_z w64 (of_z w64 m))) -ℤ to_z w64 w)) ≡ (c +ℤ m) -ℤ pos w
  low_made = ap (λ z. to_z w64 (of_z w64 z)) (ap₂ ◌-ℤ◌ middle_is width_is) ∙ to_z-of_z {w = w64} {z = (c +ℤ m) -ℤ pos w} low_fits

  pub high_made : to_z w64 (of_z w64 (to_z w64 (of_z w64 (to_z w64 (of_z w64 r) +ℤ to_z w64 (of_z w64 m))) +ℤ to_z w64 w)) ≡ (c +ℤ m) +ℤ pos w
  high_made = ap (λ z. to_z w64 (of_z w64 z)) (ap₂ ◌+ℤ◌ middle_is width_is) ∙ to_z-of_z {w = w64} {z = (c +ℤ m) +ℤ pos w} high_fits

-- ---- the end of a coordinate, by place
module _ (s : PolyZonotope) (few : s.dimension ≤ 6) (i : ℕ) (h : i < s.dimension) where
  terms-place : (f : Bool → ℤ → ℤ) → sum_ℤ (λ t. f (all_even t.exponents) (at t.coefficients i)) (view s).terms
      ≡ upto_ℤ (λ t. f (all_even (row 12 0 s.exponents t s.factors)) (at s.coefficients (t * 6 + i))) s.terms
  unfolding view
  terms-place f =
      sum-tab monoid_ℤ _ s.terms _
      ∙ upto_cong (pos 0) ◌+ℤ◌ _ _ s.terms (λ t l. ap (f _) (row_at s.coefficients t s.dimension i h))

  width-place : sum_ℕ (λ g. nat_abs (at g i)) (view s).generators + radius (view s) i
      ≡ column_sizes s.vectors i s.generators + get_or (totals_of s.radii) i 0
  unfolding view
  width-place =
      ap₂ ◌+◌ (sum-tab monoid_ℕ _ s.generators _
      ∙ upto_cong 0 ◌+◌ _ _ s.generators (λ g l. ap nat_abs (row_at s.vectors g s.dimension i h)))
      (view-radius s few i h)

  centre-place : at (view s).centre i ≡ at s.centre i
  unfolding view
  centre-place = get_d_tab s.dimension (at s.centre) (pos 0) i h

  pub view_end : (up : Bool) → end_of up (view s) i ≡
      reached up (at s.centre i +ℤ upto_ℤ (λ t. row_extreme up s.exponents s.coefficients s.factors t i) s.terms)
      (column_sizes s.vectors i s.generators + get_or (totals_of s.radii) i 0)
  unfolding low_end high_end
  view_end false = ap₂ (reached false) (ap₂ ◌+ℤ◌ centre-place (terms-place least)) width-place
  view_end true = ap₂ (reached true) (ap₂ ◌+ℤ◌ centre-place (terms-place greatest)) width-place

-- all ends, from the sums of the terms and of the generators' sizes, and the radii
pub view-ends : (s : PolyZonotope) (up : Bool) {sums : List ℤ} {sizes radii : List ℕ} → s.dimension ≤ 6
    → Extremes up s.exponents s.coefficients s.factors s.terms sums
    → sizes ≡ tab 6 (λ i. column_sizes s.vectors i s.generators) → radii ≡ totals_of s.radii
    → six s.dimension (λ i. reached up (at s.centre i +ℤ at sums i) (get_or sizes i 0 + get_or radii i 0))
    ≡ six s.dimension (end_of up (view s))
view-ends s up few x e r =
    six_cong s.dimension _ _ (λ i l h.
    ap₂ (λ t w. reached up (at s.centre i +ℤ t) w)
    (ap (λ (v : List ℤ). at v i) x.are ∙ get_d_tab 6 _ (pos 0) i l)
    (ap₂ ◌+◌ (ap (λ (v : List ℕ). get_or v i 0) e ∙ get_d_tab 6 _ 0 i l) (ap (λ (v : List ℕ). get_or v i 0) r))
    ∙ sym (view_end s few i h up))
