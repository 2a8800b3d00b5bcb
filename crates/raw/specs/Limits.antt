-- The numbers of an accepted set are small: each is at most its coordinate's span, which is at most 1,048,576.
use Rattle.std.specs.Prelude.{◌||◌, ◌≡◌, ℤ, pos, length}
use mathlib.Core.List.{List}
use Rattle.std.proofs.Math.Path.{sym, ap, ap₂}
use Rattle.std.proofs.Common.{◌∙◌}
use Prim.Native.Nat.{ℕ, ◌+◌, ◌*◌, ◌/◌, ◌%◌, ◌<◌, ◌≤◌}
use Rattle.std.proofs.Math.Decide.{dec_lt}
use native.Mathlib.Omega.{arith}
use borrow.Author.Tests.{ltb-false}
use Rattle.std.proofs.Math.Dec.{ltb, eqb}
use Rattle.std.proofs.Math.IntN.{nat_abs}
use Rattle.std.proofs.Math.ListN.{get_or, get_or-eq_default}
use Rattle.whole.specs.Sum.{monoid_ℕ, upto_ℕ, upto_cong}
use Rattle.whole.specs.Tab.{any, get_d_tab, get_d_tab_past}
use Rattle.whole.specs.Tests.{none_at}
use Rattle.model.proofs.Tests.{or_false}
use Rattle.rows.specs.Rows.{Small}
use Rattle.model.specs.Limits.{record_identifiers}
use Rattle.model.specs.Set.{at, radius, radius_of, term_sizes, generator_sizes, span}
use Rattle.model.specs.Valid.{bad_range, is_too_wide}
use Rattle.zonotope.specs.Record.{view, firsts}
use Rattle.zonotope.specs.declared.PolyZonotope.{PolyZonotope}
use Rattle.forms.specs.Dot.{upto_zero}
use Rattle.forms.specs.Tables.{row_of}
use Rattle.raw.specs.Sums.{sum-tab, upto_has}
use Rattle.raw.specs.Accepted.{InSpan, RowsSized}
use Rattle.raw.specs.Unused.{term_at, generator_at, counts_in, no_exponents, no_coefficients, no_vectors}
use Rattle.raw.specs.Unused.{centre-row, exponent-row, coefficient_row, generator-row}

-- the sum of the sizes of coordinate j over the first rows
abbrev pub row_sizes : List ℤ → ℕ → ℕ → ℕ
row_sizes xs rows j = upto_ℕ (λ t. nat_abs (row_of xs t j)) rows

-- every exponent is below 64; past the end stands 0, so that no index matters
pub record Low (exponents : List ℕ) : Type 0 where
  pub low : (x : ℕ) → get_or exponents x 0 < 64

-- a list of rows of six is small if each number of a row is
small_rows : (K : ℕ) (xs : List ℤ) (n : ℕ) → length xs ≡ n * 6 → ((t j : ℕ) → t < n → j < 6 → nat_abs (row_of xs t j) ≤ K) → Small K xs
small_rows K xs n l h = record { small = λ x. go x (dec_lt x (n * 6)) }
  where
    go : (x : ℕ) → Dec (x < n * 6) → nat_abs (at xs x) ≤ K
    go x (yes p) =
        let e : x / 6 * 6 + x % 6 ≡ x = omega arith in
        rw e at (h (x / 6) (x % 6) (omega arith) (omega arith))
    go x (no p) = rw (get_or-eq_default xs (pos 0) {n = x} (omega arith)) (omega arith)

module _ (s : PolyZonotope) (ok : InSpan s) where
  -- the sums that S is made of
  pub term-sizes : (j : ℕ) → j < 6 → row_sizes s.coefficients s.terms j ≡ term_sizes (view s) j
  unfolding term_sizes view
  term-sizes j l =
      upto_cong 0 ◌+◌ (λ t. nat_abs (row_of s.coefficients t j)) (λ t. nat_abs (at (term_at s t).coefficients j)) s.terms
      (λ t h. ap nat_abs (coefficient_row s ok t (omega (arith, counts_in s ok)) j l))
      ∙ sym (sum-tab monoid_ℕ (λ t. nat_abs (at t.coefficients j)) s.terms (term_at s))

  pub generator-sizes : (j : ℕ) → j < 6 → row_sizes s.vectors s.generators j ≡ generator_sizes (view s) j
  unfolding generator_sizes view
  generator-sizes j l =
      upto_cong 0 ◌+◌ (λ t. nat_abs (row_of s.vectors t j)) (λ t. nat_abs (at (generator_at s t) j)) s.generators
      (λ t h. ap nat_abs (generator-row s ok t (omega (arith, counts_in s ok)) j l))
      ∙ sym (sum-tab monoid_ℕ (λ g. nat_abs (at g j)) s.generators (generator_at s))

  span_in : (j : ℕ) → j < s.dimension → span (view s) j ≤ 1048576
  unfolding is_too_wide view
  span_in j l = ltb-false 1048576 (span (view s) j) (none_at (λ i. ltb 1048576 (span (view s) i)) s.dimension (λ i. i) ok.narrow j l)

  radius_out : (j : ℕ) → s.dimension ≤ j → radius (view s) j ≡ 0
  unfolding view radius_of
  radius_out j l =
      let past : (xs : List ℕ) → get_or (firsts s.dimension xs) j 0 ≡ 0 =
      λ xs. get_d_tab_past s.dimension (λ i. get_or xs i 0) 0 j l in
      ap₂ ◌+◌ (ap₂ ◌+◌ (ap₂ ◌+◌ (past s.radii.carried) (past s.radii.rounded)) (past s.radii.folded)) (past s.radii.given)

  span_out : (j : ℕ) → s.dimension ≤ j → span (view s) j ≡ 0
  unfolding span term_sizes generator_sizes view
  span_out j l =
      ap₂ ◌+◌
      (ap₂ ◌+◌
      (ap₂ ◌+◌ (ap nat_abs (get_d_tab_past s.dimension (at s.centre) (pos 0) j l))
      (sum-tab monoid_ℕ (λ t. nat_abs (at t.coefficients j)) s.terms (term_at s)
      ∙ upto_zero monoid_ℕ _ s.terms (λ t _. ap nat_abs (get_d_tab_past s.dimension (row_of s.coefficients t) (pos 0) j l))))
      (sum-tab monoid_ℕ (λ g. nat_abs (at g j)) s.generators (generator_at s)
      ∙ upto_zero monoid_ℕ _ s.generators (λ t _. ap nat_abs (get_d_tab_past s.dimension (row_of s.vectors t) (pos 0) j l))))
      (radius_out j l)

  pub span_small : (j : ℕ) → span (view s) j ≤ 1048576
  span_small j = go (dec_lt j s.dimension)
    where
      go : Dec (j < s.dimension) → span (view s) j ≤ 1048576
      go (yes p) = span_in j p
      go (no p) = rw (span_out j (omega arith)) (omega arith)

  -- D, r and w are small
  pub sums_small : (j : ℕ) → (nat_abs (at (view s).centre j) ≤ 1048576) × (term_sizes (view s) j ≤ 1048576)
      × (generator_sizes (view s) j + radius (view s) j ≤ 1048576)
  unfolding span
  sums_small j = omega (arith, span_small j)

  exponent-low : (t k : ℕ) → t < 40 → k < 12 → get_or s.exponents (t * 12 + k) 0 < 64
  unfolding bad_range view
  exponent-low t k ht hk = go (dec_lt t s.terms)
    where
      go : Dec (t < s.terms) → get_or s.exponents (t * 12 + k) 0 < 64
      go (yes p) = rw (exponent-row s ok t ht k hk) (at_row (dec_lt k s.factors))
        where
          at_row : Dec (k < s.factors) → get_or (term_at s t).exponents k 0 < 64
          at_row (yes q) =
              let identifiers = any (λ k. eqb k 0 || ltb record_identifiers k) (view s).identifiers in
              let a = (or_false identifiers (any (λ u. any (ltb 63) u.exponents) (view s).terms) ok.range).1 in
              let b = none_at (λ u. any (ltb 63) u.exponents) s.terms (term_at s) a t p in
              rw (get_d_tab s.factors (λ i. get_or s.exponents (t * 12 + i) 0) 0 k q)
              (omega (
                arith,
                ltb-false 63 (get_or s.exponents (t * 12 + k) 0)
                    (none_at (ltb 63) s.factors (λ i. get_or s.exponents (t * 12 + i) 0) b k q),
              ))
          at_row (no q) = rw (get_d_tab_past s.factors (λ i. get_or s.exponents (t * 12 + i) 0) 0 k (omega arith)) (omega arith)
      go (no p) =
          let e : (t * 12 + k) / 12 ≡ t = omega arith in
          rw (no_exponents s ok (t * 12 + k) (omega arith) (omega arith)) (omega arith)

  module _ (sized : RowsSized s) where
    pub exponents-low : Low s.exponents
    exponents-low = record { low = λ x. go x (dec_lt x 480) }
      where
        go : (x : ℕ) → Dec (x < 480) → get_or s.exponents x 0 < 64
        go x (yes p) =
            let e : x / 12 * 12 + x % 12 ≡ x = omega arith in
            rw e at (exponent-low (x / 12) (x % 12) (omega arith) (omega arith))
        go x (no p) = let l = sized.exponents in rw (get_or-eq_default s.exponents 0 {n = x} (omega arith)) (omega arith)

    pub centre_small : Small 1048576 s.centre
    centre_small = small_rows 1048576 s.centre 1 sized.centre (λ t j p h.
        let e : t * 6 + j ≡ j = omega arith in
        rw (e, centre-row s ok j h) (sums_small j).0)

    pub coefficients_small : Small 1048576 s.coefficients
    coefficients_small = small_rows 1048576 s.coefficients 40 sized.coefficients (λ t j p h. go t j p h (dec_lt t s.terms))
      where
        go : (t j : ℕ) → t < 40 → j < 6 → Dec (t < s.terms) → nat_abs (row_of s.coefficients t j) ≤ 1048576
        go t j p h (yes q) =
            omega (arith, upto_has (λ t. nat_abs (row_of s.coefficients t j)) s.terms t q, term-sizes j h, sums_small j)
        go t j p h (no q) =
            let e : (t * 6 + j) / 6 ≡ t = omega arith in
            rw (no_coefficients s ok (t * 6 + j) (omega arith) (omega arith)) (omega arith)

    pub vectors_small : Small 1048576 s.vectors
    vectors_small = small_rows 1048576 s.vectors 24 sized.vectors (λ t j p h. go t j p h (dec_lt t s.generators))
      where
        go : (t j : ℕ) → t < 24 → j < 6 → Dec (t < s.generators) → nat_abs (row_of s.vectors t j) ≤ 1048576
        go t j p h (yes q) =
            omega (arith, upto_has (λ t. nat_abs (row_of s.vectors t j)) s.generators t q, generator-sizes j h, sums_small j)
        go t j p h (no q) =
            let e : (t * 6 + j) / 6 ≡ t = omega arith in
            rw (no_vectors s ok (t * 6 + j) (omega arith) (omega arith)) (omega arith)
