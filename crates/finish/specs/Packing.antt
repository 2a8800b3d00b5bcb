-- The record of a set that is held in rows, without the factors that occur in no term.
use Rattle.std.specs.Prelude.{◌≡◌, refl, false, get_or, ℤ}
use Rattle.std.proofs.Math.Path.{sym, ap}
use Rattle.std.proofs.Common.{◌∙◌, arith}
use mathlib.Core.List.{List, []}
use Prim.Native.Nat.{ℕ, ◌/◌, ◌%◌, ◌≤◌, ◌<◌}
use Rattle.std.proofs.Math.Decide.{dec_lt}
use Rattle.std.proofs.Math.ListN.{length}
use Rattle.std.proofs.lemmas.List.{length-map}
use Rattle.whole.specs.Tab.{tab, length-tab, get_d_tab, get_d_tab_past, tab_cong, map-tab}
use Rattle.model.specs.Set.{Term, at, with_folded}
use Rattle.model.specs.Valid.{occurs}
use Rattle.model.specs.Finish.{keep_at, keep_exponents, drop_unused}
use Rattle.zonotope.specs.declared.Radii.{Radii}
use Rattle.zonotope.specs.Record.{wide_parts_of, packed_radii, no_term, pack}
use Rattle.zonotope.specs.declared.PolyZonotope.{PolyZonotope}
use Rattle.rows.specs.Rows.{number_row, term_of, terms, Places}
use Rattle.factors.specs.Kept.{kept_front}
use Rattle.factors.specs.Unused.{twelve, WithoutUnused}
use Rattle.finish.specs.declared.Unfinished.{Unfinished}
use Rattle.finish.specs.declared.Reduced.{Reduced}
use Rattle.finish.specs.Held.{held_by}
use Rattle.finish.specs.Numbers.{PartsNarrow, Narrowable, Narrowed, numbers_array}

-- the set fits a record
pub record Packable (u : Unfinished) (k : Reduced) (e heads : List ℕ) (s g : List ℤ) : Type 0 where
  pub numbers : Narrowable k s g
  pub radii : PartsNarrow (with_folded (wide_parts_of u.radii) k.folded)
  pub places-long : k.terms ≤ length heads
  pub rows : Places e heads
  pub factors_few : u.factors ≤ 12
  pub factors_past : (j : ℕ) → u.factors ≤ j → occurs (terms e heads s k.terms) j ≡ false

-- the coefficients of terms with other exponents, row by row
module _ (s : List ℤ) (n : ℕ) (t : ℕ → Term) (same : (i : ℕ) → (t i).coefficients ≡ number_row s i) where
  row_at : (i : ℕ) → Dec (i < n) → get_or (tab n (number_row s)) i [] ≡ (get_or (tab n t) i no_term).coefficients
  row_at i (yes h) = get_d_tab n (number_row s) [] i h ∙ sym (ap (λ (u : Term). u.coefficients) (get_d_tab n t no_term i h) ∙ same i)
  row_at i (no h) =
      get_d_tab_past n (number_row s) [] i (omega arith)
      ∙ sym (ap (λ (u : Term). u.coefficients) (get_d_tab_past n t no_term i (omega arith)))

  coefficients_array : (w : ℕ) → numbers_array w s n ≡ tab w (λ x. at (get_or (tab n t) (x / 6) no_term).coefficients (x % 6))
  coefficients_array w = tab_cong w _ _ (λ x h. ap (λ (v : List ℤ). at v (x % 6)) (row_at (x / 6) (dec_lt (x / 6) n)))

module _ (u : Unfinished) (k : Reduced) (e heads : List ℕ) (s g : List ℤ) (v : Packable u k e heads s g) where
  -- the identifiers of factors past the set's own don't matter
  identifiers_kept : keep_at (occurs (terms e heads s k.terms)) 0 (twelve u.identifiers)
      ≡ keep_at (occurs (terms e heads s k.terms)) 0 (tab u.factors (λ i. get_or u.identifiers i 0))
  identifiers_kept =
      kept_front (occurs (terms e heads s k.terms)) (λ i. get_or u.identifiers i 0) u.factors 12 v.factors_few v.factors_past

  pub packed : {count : ℕ} {ids exponents : List ℕ} {centre coefficients vectors : List ℤ} {radii : Radii}
      → WithoutUnused (terms e heads s k.terms) u.identifiers count ids exponents
      → Narrowed k s g centre coefficients vectors
      → radii ≡ packed_radii (with_folded (wide_parts_of u.radii) k.folded)
      → ◌≡◌ {A = PolyZonotope} (record {
        dimension = u.dimension;
        factors = count;
        terms = k.terms;
        generators = k.generators;
        identifiers = ids;
        centre = centre;
        exponents = exponents;
        coefficients = coefficients;
        vectors = vectors;
        radii = radii;
      }) (pack (drop_unused (held_by u k e heads s g)))
  unfolding pack drop_unused terms
  packed f n r =
      let ts : ℕ → Term = λ i. term_of e s (get_or heads i 0) i in
      let p = occurs (terms e heads s k.terms) in
      let spelled = map-tab (keep_exponents p) k.terms ts in
      λ i. record {
        dimension = u.dimension;
        factors = (f.count_is ∙ ap length identifiers_kept) i;
        terms = sym (length-map (terms e heads s k.terms) (keep_exponents p) ∙ length-tab k.terms ts) i;
        generators = sym (length-tab k.generators (number_row g)) i;
        identifiers = (f.identifiers_are ∙ ap twelve identifiers_kept) i;
        centre = n.centre_is i;
        exponents = f.exponents_are i;
        coefficients = (n.coefficients_are
            ∙ coefficients_array s k.terms (λ j. keep_exponents p (ts j)) (λ j. refl) 240
            ∙ ap (λ (l : List Term). tab 240 (λ x. at (get_or l (x / 6) no_term).coefficients (x % 6))) (sym spelled)) i;
        vectors = n.vectors_are i;
        radii = r i;
      }
