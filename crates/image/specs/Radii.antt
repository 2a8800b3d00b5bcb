-- The sums D, r and w of an accepted set are small, and what is carried, made from them, is that of the definition.
use Rattle.std.specs.Prelude.{List, ◌≡◌, ℕ, ◌+◌, ◌<◌, ◌≤◌, T, ℤ, get_or}
use Rattle.std.proofs.Common.{sym, ◌∙◌, ap, ap₂, add-zero, arith}
use Rattle.whole.specs.Tab.{tab, tab_cong, get_d_tab}
use Rattle.rows.specs.Rows.{Small}
use Rattle.model.specs.Set.{radius, radius_of, term_sizes, generator_sizes}
use Rattle.model.specs.Valid.{factorless}
use Rattle.model.specs.Step.{remainder}
use Rattle.zonotope.specs.Record.{view, parts_of, totals_of}
use Rattle.zonotope.specs.declared.PolyZonotope.{PolyZonotope}
use Rattle.forms.specs.Numbers.{six, both_table, line_table, table_limit}
use Rattle.raw.specs.Zeros.{constant_at}
use Rattle.raw.specs.Accepted.{InSpan}
use Rattle.raw.specs.Unused.{centre-row, radius-row}
use Rattle.raw.specs.Limits.{row_sizes, term-sizes, generator-sizes, sums_small}
use Rattle.image.specs.Remainder.{Below, spread, slope_sum, cross_sum, rounded_up, carried_from, image_limit, tab-below, slope_small}
use Rattle.image.specs.Remainder.{cross_small, rounded_up_small, remainder-from}
use Rattle.image.specs.Gaining.{gain_limit}

-- what is carried, from S with what it gains, for any step with these lines and forms
pub record Carried (lines q : List ℤ) (s : PolyZonotope) (gains r : List ℕ) : Type 0 where
  pub numbers : (c a : List ℤ) → lines ≡ line_table a (both_table q) s.centre
      → r ≡ tab 6 (λ i. rounded_up (remainder (six c a q) (view s) i + get_or gains i 0))
  pub small : Below image_limit r

module _ (s : PolyZonotope) (ok : InSpan s) where
  -- r: the generators' sizes with the radii
  abbrev pub independent_spread : ℕ → ℕ
  independent_spread = spread s.vectors s.generators (totals_of s.radii)

  -- as `spreads` makes it from the totals of the parts
  pub independent_from : (w r : List ℕ) → w ≡ totals_of s.radii → r ≡ tab 6 (spread s.vectors s.generators w)
      → r ≡ tab 6 independent_spread
  independent_from w r e f = f ∙ ap (λ (t : List ℕ). tab 6 (spread s.vectors s.generators t)) e

  pub independent_are : (j : ℕ) → j < 6 → independent_spread j ≡ generator_sizes (view s) j + radius (view s) j
  independent_are j h = ap₂ ◌+◌ (generator-sizes s ok j h) (radius-row s ok j h)

  pub independent_below : Below 1048576 (tab 6 independent_spread)
  independent_below = tab-below 1048576 6 independent_spread (λ j h. rw (independent_are j h) (sums_small s ok j).2)

  -- w: the radii alone
  pub radii-below : Below 1048576 (totals_of s.radii)
  radii-below =
      let total = radius_of (parts_of s.radii) in
      tab-below 1048576 6 total (λ j h. omega (arith, sym (get_d_tab 6 total 0 j h), radius-row s ok j h, sums_small s ok j))

  -- what `spreads` asks
  pub terms_room : (j : ℕ) → j < 6 → row_sizes s.coefficients s.terms j ≤ 1048576
  terms_room j h = rw (term-sizes s ok j h) (sums_small s ok j).1

  pub generators_room : (j : ℕ) → j < 6 → row_sizes s.vectors s.generators j ≤ 1048576
  generators_room j h = rw (generator-sizes s ok j h) (omega (arith, sums_small s ok j))

  module _ (none : List ℕ) (empty : T (factorless none)) where
    -- D: the terms' sizes; `none` is an array of zeros
    abbrev pub term_spread : ℕ → ℕ
    term_spread = spread s.coefficients s.terms none

    pub terms_are : (j : ℕ) → j < 6 → term_spread j ≡ term_sizes (view s) j
    terms_are j h = ap₂ ◌+◌ (term-sizes s ok j h) (constant_at none empty j) ∙ add-zero (term_sizes (view s) j)

    pub terms-below : Below 1048576 (tab 6 term_spread)
    terms-below = tab-below 1048576 6 term_spread (λ j h. rw (terms_are j h) (sums_small s ok j).1)

    -- what is carried, from the three
    module _ (q lines : List ℤ) (d r w gains : List ℕ) (ed : d ≡ tab 6 term_spread) (er : r ≡ tab 6 independent_spread)
        (ew : w ≡ totals_of s.radii) where
      place : (xs : List ℕ) (f g : ℕ → ℕ) → xs ≡ tab 6 f → ((j : ℕ) → j < 6 → f j ≡ g j) → (j : ℕ) → j < 6 → get_or xs j 0 ≡ g j
      place xs f g e h j l = ap (λ (ys : List ℕ). get_or ys j 0) e ∙ get_d_tab 6 f 0 j l ∙ h j l

      abbrev found : ℕ → ℕ
      found = carried_from lines q d r w gains

      found_is : (c a : List ℤ) → lines ≡ line_table a (both_table q) s.centre → (i : ℕ) → i < 6
          → found i ≡ rounded_up (remainder (six c a q) (view s) i + get_or gains i 0)
      found_is c a el i h =
          ap (λ (n : ℕ). rounded_up (n + get_or gains i 0))
          (ap (λ (ls : List ℤ). slope_sum ls w i + cross_sum q d r i) el
          ∙ remainder-from c a q s.centre (view s) (centre-row s ok) d r w (place d term_spread (λ j. term_sizes (view s) j) ed terms_are)
          (place r independent_spread (λ j. generator_sizes (view s) j + radius (view s) j) er independent_are)
          (λ j l. ap (λ (ys : List ℕ). get_or ys j 0) ew ∙ radius-row s ok j l) i h)

      found_small : Small 32768 q → Small table_limit lines → Below gain_limit gains → (i : ℕ) → found i ≤ image_limit
      found_small hq hl hg i =
          let n : slope_sum lines w i ≤ 2594917810295537664 = slope_small lines w hl (rw ew radii-below) i in
          let m : cross_sum q d r i ≤ 3891110078048108544 = cross_small q d r hq (rw ed terms-below) (rw er independent_below) i in
          rounded_up_small (slope_sum lines w i + cross_sum q d r i + get_or gains i 0) (omega (arith, hg.below i))

      pub carried_is : Small 32768 q → Small table_limit lines → Below gain_limit gains → (c : List ℕ) → c ≡ tab 6 found
          → Carried lines q s gains c
      carried_is hq hl hg c e = record {
        numbers = λ c a el. e ∙ tab_cong 6 found _ (found_is c a el);
        small = rw e (tab-below image_limit 6 found (λ i _. found_small hq hl hg i));
      }
