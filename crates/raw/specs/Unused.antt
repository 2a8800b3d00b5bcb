-- The unused places of a record hold 0, so its rows of 12 exponents and of 6 numbers are those of its set, continued by zeros.
use Rattle.std.specs.Prelude.{Bool, false, not, ◌||◌, List, ◌≡◌, ℤ, pos, nat_abs, length}
use Rattle.std.proofs.Common.{sym, ◌∙◌, arith}
use Rattle.std.proofs.Math.Path.{ap₂}
use Prim.Native.Nat.{ℕ, ◌+◌, ◌*◌, ◌/◌, ◌%◌, ◌<◌, ◌≤◌}
use Rattle.std.proofs.Math.Decide.{dec_lt}
use borrow.Author.Tests.{le-ltb, eqb-true, ltb-false}
use Rattle.std.proofs.Math.Dec.{ltb, eqb}
use Rattle.std.proofs.Math.ListN.{get_or}
use Rattle.whole.specs.Size.{abs_zero}
use Rattle.whole.specs.Tab.{tab, length-tab, get_d_tab, get_d_tab_past}
use Rattle.whole.specs.Tests.{none_at}
use Rattle.model.proofs.Tests.{or_false}
use Rattle.model.specs.Set.{Term, at, radius, radius_of}
use Rattle.model.specs.Valid.{bad_counts}
use Rattle.arrays.specs.Rows.{row}
use Rattle.arrays.specs.Spare.{spare_ℕ, spare_ℤ, in_rows}
use Rattle.zonotope.specs.Record.{view, spare, parts_of, totals_of, firsts, spare_parts}
use Rattle.zonotope.specs.declared.PolyZonotope.{PolyZonotope}
use Rattle.forms.specs.Tables.{row_of}
use Rattle.raw.specs.Tests.{free, no_row, no_column}
use Rattle.raw.specs.Accepted.{InSpan}

-- term t of a record
abbrev pub term_at : PolyZonotope → ℕ → Term
term_at s t = record {
  exponents = row 12 0 s.exponents t s.factors;
  coefficients = row 6 (pos 0) s.coefficients t s.dimension;
}

-- generator t of a record
abbrev pub generator_at : PolyZonotope → ℕ → List ℤ
generator_at s t = row 6 (pos 0) s.vectors t s.dimension

-- ---- a place that is not used
unused_ℤ : (xs : List ℤ) (n : ℕ) (used : ℕ → Bool) → spare_ℤ xs n used ≡ false → (x : ℕ) → x < n → used x ≡ false → at xs x ≡ pos 0
unused_ℤ xs n used h x l u =
    abs_zero (eqb-true (nat_abs (at xs x)) 0
    (free (used x) (eqb (nat_abs (at xs x)) 0) (none_at (λ y. not (used y || eqb (nat_abs (at xs y)) 0)) n (λ y. y) h x l) u))

unused_ℕ : (xs : List ℕ) (n : ℕ) (used : ℕ → Bool) → spare_ℕ xs n used ≡ false → (x : ℕ) → x < n → used x ≡ false → get_or xs x 0 ≡ 0
unused_ℕ xs n used h x l u =
    eqb-true (get_or xs x 0) 0 (free (used x) (eqb (get_or xs x 0) 0) (none_at (λ y. not (used y || eqb (get_or xs y 0) 0)) n (λ y. y) h x l) u)

past_row : (w rows columns x : ℕ) → rows ≤ x / w → in_rows w rows columns x ≡ false
past_row w rows columns x h = no_row (ltb (x / w) rows) (ltb (x % w) columns) (le-ltb (x / w) rows h)

past_column : (w rows columns x : ℕ) → columns ≤ x % w → in_rows w rows columns x ≡ false
past_column w rows columns x h = no_column (ltb (x / w) rows) (ltb (x % w) columns) (le-ltb (x % w) columns h)

-- a table that continues by its default
pub same_row : {A : Type 0} (d : A) (f : ℕ → A) (n w : ℕ) → ((j : ℕ) → j < w → n ≤ j → f j ≡ d) → (j : ℕ) → j < w → f j ≡ get_or (tab n f) j d
same_row d f n w h j l = go (dec_lt j n)
  where
    go : Dec (j < n) → f j ≡ get_or (tab n f) j d
    go (yes p) = sym (get_d_tab n f d j p)
    go (no p) = h j l (omega arith) ∙ sym (get_d_tab_past n f d j (omega arith))

module _ (s : PolyZonotope) (ok : InSpan s) where
  pub counts_in : (s.dimension ≤ 6) × (s.factors ≤ 12) × (s.terms ≤ 40) × (s.generators ≤ 24)
  unfolding bad_counts view
  counts_in =
      let no-dimension = eqb s.dimension 0 in
      let dimension = ltb 6 s.dimension in
      let factors = ltb 12 (length (tab s.factors (λ k. get_or s.identifiers k 0))) in
      let terms = ltb 40 (length (tab s.terms (term_at s))) in
      let generators = ltb 24 (length (tab s.generators (generator_at s))) in
      let a = or_false (no-dimension || dimension || factors || terms) generators ok.counts in
      let b = or_false (no-dimension || dimension || factors) terms a.0 in
      let c = or_false (no-dimension || dimension) factors b.0 in
      let d = or_false no-dimension dimension c.0 in (
        ltb-false 6 s.dimension d.1,
        rw length-tab at (ltb-false 12 (length (tab s.factors (λ k. get_or s.identifiers k 0))) c.1),
        rw length-tab at (ltb-false 40 (length (tab s.terms (term_at s))) b.1),
        rw length-tab at (ltb-false 24 (length (tab s.generators (generator_at s))) a.1),
      )

  spared : (spare_ℤ s.centre 6 (λ i. ltb i s.dimension) ≡ false)
      × (spare_ℕ s.exponents 480 (in_rows 12 s.terms s.factors) ≡ false)
      × (spare_ℤ s.coefficients 240 (in_rows 6 s.terms s.dimension) ≡ false)
      × (spare_ℤ s.vectors 144 (in_rows 6 s.generators s.dimension) ≡ false)
      × (spare_parts s.radii s.dimension ≡ false)
  unfolding spare
  spared =
      let identifiers = spare_ℕ s.identifiers 12 (λ i. ltb i s.factors) in
      let centre = spare_ℤ s.centre 6 (λ i. ltb i s.dimension) in
      let exponents = spare_ℕ s.exponents 480 (in_rows 12 s.terms s.factors) in
      let coefficients = spare_ℤ s.coefficients 240 (in_rows 6 s.terms s.dimension) in
      let vectors = spare_ℤ s.vectors 144 (in_rows 6 s.generators s.dimension) in
      let radii = spare_parts s.radii s.dimension in
      let a = or_false (identifiers || centre || exponents || coefficients || vectors) radii ok.unused in
      let b = or_false (identifiers || centre || exponents || coefficients) vectors a.0 in
      let c = or_false (identifiers || centre || exponents) coefficients b.0 in
      let d = or_false (identifiers || centre) exponents c.0 in
      let e = or_false identifiers centre d.0 in
      (e.1, d.1, c.1, b.1, a.1)

  -- rows past the counts
  pub no_exponents : (x : ℕ) → x < 480 → s.terms ≤ x / 12 → get_or s.exponents x 0 ≡ 0
  no_exponents x l h = unused_ℕ s.exponents 480 (in_rows 12 s.terms s.factors) spared.1 x l
      (past_row 12 s.terms s.factors x h)

  pub no_coefficients : (x : ℕ) → x < 240 → s.terms ≤ x / 6 → at s.coefficients x ≡ pos 0
  no_coefficients x l h = unused_ℤ s.coefficients 240 (in_rows 6 s.terms s.dimension) spared.2 x l
      (past_row 6 s.terms s.dimension x h)

  pub no_vectors : (x : ℕ) → x < 144 → s.generators ≤ x / 6 → at s.vectors x ≡ pos 0
  no_vectors x l h = unused_ℤ s.vectors 144 (in_rows 6 s.generators s.dimension) spared.3 x l
      (past_row 6 s.generators s.dimension x h)

  -- rows of the set
  pub centre-row : (j : ℕ) → j < 6 → at s.centre j ≡ at (view s).centre j
  unfolding view
  centre-row j l =
      same_row (pos 0) (at s.centre) s.dimension 6
      (λ i b h. unused_ℤ s.centre 6 (λ k. ltb k s.dimension) spared.0 i b (le-ltb i s.dimension h)) j l

  -- of a part of the radii
  abbrev spare_part : List ℕ → Bool
  spare_part xs = spare_ℕ xs 6 (λ i. ltb i s.dimension)

  part-row : (xs : List ℕ) → spare_part xs ≡ false → (j : ℕ) → j < 6 → get_or xs j 0 ≡ get_or (firsts s.dimension xs) j 0
  part-row xs e j l =
      same_row 0 (λ i. get_or xs i 0) s.dimension 6
      (λ i b h. unused_ℕ xs 6 (λ k. ltb k s.dimension) e i b (le-ltb i s.dimension h)) j l

  pub radius-row : (j : ℕ) → j < 6 → get_or (totals_of s.radii) j 0 ≡ radius (view s) j
  unfolding view radius_of
  radius-row j l =
      let carried = s.radii.carried in
      let rounded = s.radii.rounded in
      let folded = s.radii.folded in
      let given = s.radii.given in
      let a = or_false (spare_part carried || spare_part rounded || spare_part folded) (spare_part given) spared.4 in
      let b = or_false (spare_part carried || spare_part rounded) (spare_part folded) a.0 in
      let c = or_false (spare_part carried) (spare_part rounded) b.0 in
      get_d_tab 6 (radius_of (parts_of s.radii)) 0 j l
      ∙ ap₂ ◌+◌ (ap₂ ◌+◌ (ap₂ ◌+◌ (part-row carried c.0 j l) (part-row rounded c.1 j l)) (part-row folded b.1 j l))
      (part-row given a.1 j l)

  pub exponent-row : (t : ℕ) → t < 40 → (j : ℕ) → j < 12 → get_or s.exponents (t * 12 + j) 0 ≡ get_or (term_at s t).exponents j 0
  exponent-row t ht j l =
      same_row 0 (λ i. get_or s.exponents (t * 12 + i) 0) s.factors 12
      (λ i b h.
      let e : (t * 12 + i) % 12 ≡ i = omega arith in
      unused_ℕ s.exponents 480 (in_rows 12 s.terms s.factors) spared.1 (t * 12 + i) (omega arith)
      (past_column 12 s.terms s.factors (t * 12 + i) (omega arith))) j l

  pub coefficient_row : (t : ℕ) → t < 40 → (j : ℕ) → j < 6 → row_of s.coefficients t j ≡ at (term_at s t).coefficients j
  coefficient_row t ht j l =
      same_row (pos 0) (row_of s.coefficients t) s.dimension 6
      (λ i b h.
      let e : (t * 6 + i) % 6 ≡ i = omega arith in
      unused_ℤ s.coefficients 240 (in_rows 6 s.terms s.dimension) spared.2 (t * 6 + i) (omega arith)
      (past_column 6 s.terms s.dimension (t * 6 + i) (omega arith))) j l

  pub generator-row : (t : ℕ) → t < 24 → (j : ℕ) → j < 6 → row_of s.vectors t j ≡ at (generator_at s t) j
  generator-row t ht j l =
      same_row (pos 0) (row_of s.vectors t) s.dimension 6
      (λ i b h.
      let e : (t * 6 + i) % 6 ≡ i = omega arith in
      unused_ℤ s.vectors 144 (in_rows 6 s.generators s.dimension) spared.3 (t * 6 + i) (omega arith)
      (past_column 6 s.generators s.dimension (t * 6 + i) (omega arith))) j l
