-- The count of inexact roundings over the rows in wide form is the definition's, and rounding keeps the wide form.
use mathlib.Core.List.{List, [], ◌∷◌, map}
use Rattle.std.specs.Prelude.{◌≡◌, ℤ, pos, length}
use Rattle.std.proofs.Math.Path.{refl, ap, ap₂}
use Rattle.std.proofs.Common.{sym, ◌∙◌, zero-add, arith}
use Prim.Native.Nat.{ℕ, zero, suc, ◌+◌, ◌*◌, ◌/◌, ◌%◌, ◌<◌, ◌≤◌}
use Rattle.std.proofs.Math.ListN.{get_or}
use Rattle.whole.specs.Round.{round, inexact}
use Rattle.whole.specs.Sum.{monoid_ℕ, sum_by, sum_ℕ, upto_by, sum-++, upto_cong, upto_bound}
use Rattle.whole.specs.Tab.{tab, tab_cong, map-tab, tab_get_d, get_d_tab, get_d_tab_past}
use Rattle.rows.specs.Rows.{rows_of}
use Rattle.model.specs.Set.{Term, Zonotope, at}
use Rattle.model.specs.Step.{Step, own, paired, pairs, raw, raw_centre, raw_linear, raw_square, raw_pair, remainder}
use Rattle.model.specs.Step.{RawImage, inexact_at, carried_at, rounded_at}
use Rattle.forms.specs.Tables.{row_of}
use Rattle.raw.specs.Sums.{sum-tab}
use Rattle.raw.specs.Append.{wide_term, term-same}
use Rattle.raw.specs.Kept.{Kept}
use Rattle.raw.specs.Parts.{wide_vectors}
use Rattle.image.specs.Rounding.{inexact_in, inexact_of, half_up, round_term, round-zero, zero-exact, inexact_small, counted-rows}
use Rattle.image.specs.KeptRows.{kept-counted}
use Rattle.image.specs.Remainder.{Below, tab-below, rounded_up, image_limit}
use Rattle.image.specs.Gaining.{gained_image}

-- ---- rounding and the wide form
at-round : (v : List ℤ) (i : ℕ) → at (map round v) i ≡ round (at v i)
at-round [] i = sym round-zero
at-round (x ∷ v) zero = refl
at-round (x ∷ v) (suc i) = at-round v i

round-wide : (t : Term) → round_term (wide_term t) ≡ wide_term (round_term t)
round-wide t = term-same refl (map-tab round 6 (at t.coefficients) ∙ tab_cong 6 _ _ (λ i h. sym (at-round t.coefficients i)))

pub round-terms : (ts : List Term) → map round_term (map wide_term ts) ≡ map wide_term (map round_term ts)
round-terms [] = refl
round-terms (t ∷ ts) = ap₂ ◌∷◌ (round-wide t) (round-terms ts)

pub round_vector : (v : List ℤ) → tab 6 (λ i. round (at v i)) ≡ tab 6 (at (map round v))
round_vector v = tab_cong 6 _ _ (λ i h. sym (at-round v i))

row-round : (vs : List (List ℤ)) (t : ℕ) → get_or (map (map round) vs) t [] ≡ map round (get_or vs t [])
row-round [] t = refl
row-round (v ∷ vs) zero = refl
row-round (v ∷ vs) (suc t) = row-round vs t

pub round-vectors : (vs : List (List ℤ)) → tab 144 (λ x. round (at (wide_vectors vs) x)) ≡ wide_vectors (map (map round) vs)
round-vectors vs =
    tab_cong 144 _ _
    (λ x h.
    ap round (get_d_tab 144 (λ y. at (get_or vs (y / 6) []) (y % 6)) (pos 0) x h)
    ∙ sym (ap (λ (v : List ℤ). at v (x % 6)) (row-round vs (x / 6)) ∙ at-round (get_or vs (x / 6) []) (x % 6)))

-- ---- counts
-- over the terms in wide form
wide-terms-counted : (ts : List Term) (i : ℕ) → i < 6
    → sum_ℕ (λ t. inexact (at t.coefficients i)) (map wide_term ts) ≡ sum_ℕ (λ t. inexact (at t.coefficients i)) ts
unfolding sum_by
wide-terms-counted [] i h = refl
wide-terms-counted (t ∷ ts) i h = ap₂ ◌+◌ (ap inexact (get_d_tab 6 (at t.coefficients) (pos 0) i h)) (wide-terms-counted ts i h)

-- over the generators in wide form
vectors-counted : (vs : List (List ℤ)) → length vs ≤ 24 → (i : ℕ) → i < 6 → inexact_in (wide_vectors vs) (length vs) i ≡
    sum_ℕ (λ g. inexact (at g i)) vs
vectors-counted vs l i h =
    upto_cong 0 ◌+◌ (λ t. inexact (row_of (wide_vectors vs) t i)) (λ t. inexact (at (get_or vs t []) i)) (length vs)
    (λ t m.
    let e : (t * 6 + i) / 6 ≡ t = omega arith in
    let f : (t * 6 + i) % 6 ≡ i = omega arith in
    ap inexact (get_d_tab 144 (λ y. at (get_or vs (y / 6) []) (y % 6)) (pos 0) (t * 6 + i) (omega arith)
    ∙ ap₂ (λ (x y : ℕ). at (get_or vs x []) y) e f))
    ∙ sym (sum-tab monoid_ℕ (λ g. inexact (at g i)) (length vs) (λ t. get_or vs t []))
    ∙ ap (sum_ℕ (λ g. inexact (at g i))) (tab_get_d (length vs) vs [] refl)

-- over one row
row-counted : (v : List ℤ) (i : ℕ) → i < 6 → inexact_in (tab 6 (at v)) 1 i ≡ inexact (at v i)
unfolding upto_by
row-counted v i h =
    let e : 0 * 6 + i ≡ i = omega arith in
    zero-add (inexact (row_of (tab 6 (at v)) 0 i)) ∙ ap inexact (ap (at (tab 6 (at v))) e ∙ get_d_tab 6 (at v) (pos 0) i h)

pub counted : (z : RawImage) (e : List ℕ) (w centre vectors : List ℤ) (r g : ℕ) → r * 6 ≤ length w → length z.generators ≡ g → g ≤ 24
    → Kept (rows_of e w r) (map wide_term z.terms) → centre ≡ tab 6 (at z.centre) → vectors ≡ wide_vectors z.generators
    → (i : ℕ) → i < 6 → inexact_of w r centre vectors g i ≡ inexact_at z i
unfolding inexact_at inexact_of
counted z e w centre vectors r g l n m terms ec ev i h =
    ap₂ ◌+◌
    (ap₂ ◌+◌ (ap (λ (v : List ℤ). inexact_in v 1 i) ec ∙ row-counted z.centre i h)
    (counted-rows e w r l i h ∙ kept-counted terms i ∙ wide-terms-counted z.terms i h))
    (ap₂ (λ (v : List ℤ) (k : ℕ). inexact_in v k i) ev (sym n) ∙ vectors-counted z.generators (rw n m) i h)

-- a count is at most the number of rows
pub counts-below : (w centre vectors : List ℤ) (r g : ℕ) (counts : List ℕ) → counts ≡ tab 6 (inexact_of w r centre vectors g) → r ≤ 860 →
    g ≤ 24
    → Below 4294967296 counts
unfolding inexact_of
counts-below w centre vectors r g counts e h l =
    rw e (tab-below 4294967296 6 (inexact_of w r centre vectors g)
    (λ i _. omega (arith, rows-below centre 1 i, rows-below w r i, rows-below vectors g i)))
  where
    rows-below : (v : List ℤ) (n i : ℕ) → inexact_in v n i ≤ n * 1
    rows-below v n i = upto_bound (λ t. inexact (row_of v t i)) 1 n (λ t _. inexact_small (row_of v t i))

-- so what rounding adds is small
pub halves_below : (counts halves : List ℕ) → Below 4294967296 counts → halves ≡ tab 6 (λ i. half_up (get_or counts i 0))
    → Below image_limit halves
halves_below counts halves h e = rw e (tab-below image_limit 6 (λ i. half_up (get_or counts i 0)) (λ i _. omega (arith, h.below i)))

-- images with the same wide form have the same counts
pub same-inexact : (y z : RawImage) → map wide_term y.terms ≡ map wide_term z.terms → wide_vectors y.generators ≡
    wide_vectors z.generators
    → length y.generators ≡ length z.generators → length z.generators ≤ 24 → (i : ℕ) → i < 6 → at y.centre i ≡ at z.centre i
    → inexact_at y i ≡ inexact_at z i
unfolding inexact_at
same-inexact y z terms vectors n m i h centre =
    ap₂ ◌+◌
    (ap₂ ◌+◌ (ap inexact centre)
    (sym (wide-terms-counted y.terms i h) ∙ ap (sum_ℕ (λ t. inexact (at t.coefficients i))) terms ∙ wide-terms-counted z.terms i h))
    (sym (vectors-counted y.generators (rw n m) i h)
    ∙ ap₂ (λ (v : List ℤ) (k : ℕ). inexact_in v k i) vectors n
    ∙ vectors-counted z.generators m i h)

-- ---- past the step's rows nothing is counted
module _ (p : Step) (z : Zonotope) (i : ℕ) (past : p.rows ≤ i) where
  none_at : (f : ℕ → ℤ) → inexact (at (tab p.rows f) i) ≡ 0
  none_at f = ap inexact (get_d_tab_past p.rows f (pos 0) i past) ∙ zero-exact

  none_mapped : (f : Term → Term) → ((t : Term) → inexact (at (f t).coefficients i) ≡ 0) → (ts : List Term)
      → sum_ℕ (λ t. inexact (at t.coefficients i)) (map f ts) ≡ 0
  unfolding sum_by
  none_mapped f h [] = refl
  none_mapped f h (t ∷ ts) = ap₂ ◌+◌ (h t) (none_mapped f h ts)

  none_paired : (ts : List Term) → sum_ℕ (λ t. inexact (at t.coefficients i)) (pairs p z ts) ≡ 0
  unfolding pairs sum_by
  none_paired [] = refl
  none_paired (t ∷ ts) =
      ap₂ ◌+◌ (none_at (raw_square p z t.coefficients))
      (sum-++ monoid_ℕ (λ t. inexact (at t.coefficients i)) (map (paired p z t) ts) (pairs p z ts)
      ∙ ap₂ ◌+◌ (none_mapped (paired p z t) (λ u. none_at (raw_pair p z t.coefficients u.coefficients)) ts) (none_paired ts))

  none_generated : (gs : List (List ℤ)) → sum_ℕ (λ g. inexact (at g i)) (map (λ g. tab p.rows (raw_linear p z g)) gs) ≡ 0
  unfolding sum_by
  none_generated [] = refl
  none_generated (g ∷ gs) = ap₂ ◌+◌ (none_at (raw_linear p z g)) (none_generated gs)

  none_inexact : inexact_at (raw p z) i ≡ 0
  unfolding inexact_at raw
  none_inexact =
      ap₂ ◌+◌
      (ap₂ ◌+◌ (none_at (raw_centre p z))
      (sum-++ monoid_ℕ (λ t. inexact (at t.coefficients i)) (map (own p z) z.terms) (pairs p z z.terms)
      ∙ ap₂ ◌+◌ (none_mapped (own p z) (λ t. none_at (raw_linear p z t.coefficients)) z.terms) (none_paired z.terms)))
      (none_generated z.generators)

  pub none_carried : (gains : List ℕ) → carried_at (gained_image gains p z) i ≡ 0
  unfolding carried_at
  none_carried gains = ap rounded_up (get_d_tab_past p.rows (λ j. remainder p z j + get_or gains j 0) 0 i past)

  pub none_rounded : (gains : List ℕ) → rounded_at (gained_image gains p z) i ≡ 0
  unfolding rounded_at inexact_at
  none_rounded gains = ap half_up none_inexact
