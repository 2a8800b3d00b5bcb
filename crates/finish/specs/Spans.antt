-- The span of a set whose terms and generators are held in rows.
use Rattle.std.specs.Prelude.{◌≡◌, refl, List, [], ◌∷◌, ◌++◌, ℕ, zero, suc, ◌+◌, ◌*◌, ◌^◌, ◌≤◌, ◌<◌, get_or, ℤ, pos}
use Rattle.std.proofs.Math.Path.{sym, ap, ap₂}
use Rattle.std.proofs.Common.{◌∙◌, add-one, arith}
use Rattle.std.proofs.Math.Dec.{ltb}
use Rattle.std.proofs.Math.IntN.{nat_abs}
use Rattle.whole.specs.Sum.{monoid_ℕ, sum_by, sum_ℕ, sum-++, upto_by, upto_ℕ, upto_cong}
use Rattle.whole.specs.Tab.{tab, get_d_tab, tab-more}
use Rattle.model.specs.Limits.{max_span}
use Rattle.model.specs.Set.{at, radius_of, term_sizes, generator_sizes, span, with_folded}
use Rattle.model.specs.Valid.{is_too_wide}
use Rattle.rows.specs.Rows.{number_row, term_of, terms}
use Rattle.whole.specs.Tests.{some_below, any_cong}
use Rattle.zonotope.specs.declared.WideRadii.{WideRadii}
use Rattle.zonotope.specs.Record.{wide_parts_of}
use Rattle.finish.specs.declared.Unfinished.{Unfinished}
use Rattle.finish.specs.declared.Reduced.{Reduced}
use Rattle.finish.specs.Held.{held_by, RowsLong}

-- the sizes at coordinate i of the first n rows together
abbrev pub column_size : List ℤ → ℕ → ℕ → ℕ
column_size s n i = upto_ℕ (λ t. nat_abs (get_or s (t * 6 + i) (pos 0))) n

-- the span of coordinate i
abbrev pub held_span : WideRadii → Reduced → List ℤ → List ℤ → ℕ → ℕ
held_span r k s g i =
    nat_abs (at k.centre i) + column_size s k.terms i + column_size g k.generators i + radius_of (with_folded (wide_parts_of r)
    k.folded) i

-- a sum over a table is one over its places
sum-tab : {A : Type 0} (f : A → ℕ) (n : ℕ) (t : ℕ → A) → sum_ℕ f (tab n t) ≡ upto_ℕ (λ k. f (t k)) n
unfolding sum_by tab upto_by
sum-tab f zero t = refl
sum-tab f (suc n) t =
    let e : tab (suc n) t ≡ tab n t ++ (t n ∷ []) = rw add-one at (tab-more n t) in
    let z : f (t n) + 0 ≡ f (t n) = omega arith in
    ap (sum_ℕ f) e ∙ sum-++ monoid_ℕ f (tab n t) (t n ∷ []) ∙ ap₂ ◌+◌ (sum-tab f n t) z

-- the sum of a column of rows
column_sum : {A : Type 0} (row : A → List ℤ) (n : ℕ) (t : ℕ → A) (s : List ℤ) → ((k : ℕ) → row (t k) ≡ number_row s k) → (i : ℕ) → i < 6
    → sum_ℕ (λ a. nat_abs (at (row a) i)) (tab n t) ≡ column_size s n i
column_sum row n t s h i l =
    sum-tab (λ a. nat_abs (at (row a) i)) n t
    ∙ upto_cong 0 ◌+◌ _ _ n (λ k b. ap nat_abs (ap (λ v. at v i) (h k) ∙ get_d_tab 6 (λ j. get_or s (k * 6 + j) (pos 0)) (pos 0) i l))

module _ (u : Unfinished) (k : Reduced) (e heads : List ℕ) (s g : List ℤ) where
  pub span-held : (i : ℕ) → i < 6 → span (held_by u k e heads s g) i ≡ held_span u.radii k s g i
  unfolding span term_sizes generator_sizes terms
  span-held i h =
      ap₂ (λ a b. nat_abs (at k.centre i) + a + b + radius_of (with_folded (wide_parts_of u.radii) k.folded) i)
      (column_sum (λ t. t.coefficients) k.terms (λ t. term_of e s (get_or heads t 0) t) s (λ t. refl) i h)
      (column_sum (λ v. v) k.generators (number_row g) g (λ t. refl) i h)

  -- whether one of them is too wide
  pub wide-held : u.dimension ≤ 6 → some_below u.dimension (λ i. ltb max_span (held_span u.radii k s g i)) ≡ is_too_wide (held_by u k e heads s g)
  unfolding is_too_wide
  wide-held few =
      any_cong _ (λ i. ltb max_span (span (held_by u k e heads s g) i)) u.dimension (λ i. i)
      (λ i l. ap (ltb max_span) (sym (span-held i (omega arith))))

-- ---- a coordinate's parts fit 64 bits together
pub span_fits : {k : Reduced} {s g : List ℤ} → RowsLong k s g → (i a b c : ℕ) → a ≤ k.terms * 2 ^ 50 → b ≤ k.generators * 2 ^ 50
    → c ≤ 2 ^ 61 + 3 * 2 ^ 40 → nat_abs (at k.centre i) + a + b + c < 2 ^ 63
span_fits v i a b c p q r =
    let few = v.terms_few in
    let fewer = v.generators_few in
    omega (arith, v.centre_small.small i)
