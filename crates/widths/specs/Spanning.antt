-- The spans of an accepted set, from its centre and the sums D and r.
use Rattle.std.specs.Prelude.{List, ◌≡◌, T, ℤ, get_or}
use Rattle.std.proofs.Common.{◌∙◌, ap}
use Rattle.std.proofs.Math.Path.{ap₂}
use Prim.Native.Nat.{ℕ, ◌+◌, ◌<◌}
use native.Mathlib.Omega.{arith}
use Rattle.std.proofs.Math.IntN.{nat_abs}
use Rattle.whole.specs.Tab.{tab, tab_cong, get_d_tab}
use Rattle.model.specs.Set.{at, radius, term_sizes, generator_sizes, span}
use Rattle.model.specs.Valid.{factorless}
use Rattle.zonotope.specs.Record.{view}
use Rattle.zonotope.specs.declared.PolyZonotope.{PolyZonotope}
use Rattle.raw.specs.Accepted.{InSpan}
use Rattle.raw.specs.Unused.{centre-row}
use Rattle.raw.specs.Limits.{span_small}
use Rattle.image.specs.Remainder.{Below, tab-below}
use Rattle.image.specs.Radii.{term_spread, independent_spread, terms_are, independent_are}

-- |k_j| + D_j + r_j
abbrev pub span_sum : List ℤ → List ℕ → List ℕ → ℕ → ℕ
span_sum centre d r j = nat_abs (at centre j) + get_or d j 0 + get_or r j 0

module _ (s : PolyZonotope) (ok : InSpan s) (none : List ℕ) (empty : T (factorless none)) where
  span_is : (j : ℕ) → j < 6 → nat_abs (at s.centre j) + term_spread s ok none empty j + independent_spread s ok j ≡ span (view s) j
  unfolding span
  span_is j h =
      ap₂ ◌+◌ (ap₂ ◌+◌ (ap nat_abs (centre-row s ok j h)) (terms_are s ok none empty j h)) (independent_are s ok j h)
      ∙ together (nat_abs (at (view s).centre j)) (term_sizes (view s) j) (generator_sizes (view s) j) (radius (view s) j)
    where
      together : (k d g r : ℕ) → k + d + (g + r) ≡ k + d + g + r
      together k d g r = omega arith

  -- what `of_set` promises
  pub spans_are : (d r : List ℕ) → d ≡ tab 6 (term_spread s ok none empty) → r ≡ tab 6 (independent_spread s ok)
      → (t : List ℕ) → t ≡ tab 6 (span_sum s.centre d r) → (t ≡ tab 6 (span (view s))) × Below 1048576 t
  spans_are d r ed er t e =
      let f : t ≡ tab 6 (span (view s)) = e ∙ tab_cong 6 _ _ (λ j h. ap₂ (λ (x y : ℕ). nat_abs (at s.centre j) + x + y)
      (ap (λ (l : List ℕ). get_or l j 0) ed ∙ get_d_tab 6 (term_spread s ok none empty) 0 j h)
      (ap (λ (l : List ℕ). get_or l j 0) er ∙ get_d_tab 6 (independent_spread s ok) 0 j h)
      ∙ span_is j h) in
      (f, rw f (tab-below 1048576 6 (span (view s)) (λ j _. span_small s ok j)))
