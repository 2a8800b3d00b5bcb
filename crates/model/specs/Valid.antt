-- Which sets are valid, as one test for each refusal, in the order in which they are asked: 4, 6, 7, 8.
use Rattle.std.specs.Prelude.{List, [], ◌∷◌, Bool, true, false, not, cond, ◌&&◌, ◌||◌, ℕ, ltb, eqb, length, get_or, ℤ, nat_abs}
use Rattle.whole.specs.Tab.{tab, any, all}
use Rattle.model.specs.Limits.{max_dimension, max_factors, max_terms, max_generators, max_exponent, max_span}
use Rattle.model.specs.Set.{Term, Zonotope, span}

-- ---- the order of exponent rows: the first factor in which they differ decides; a row that ends first is less, so that this is total
pub data Order : Type 0 where
  less equal greater : Order

unfoldable pub order : List ℕ → List ℕ → Order
order [] [] = equal
order [] (y ∷ ys) = less
order (x ∷ xs) [] = greater
order (x ∷ xs) (y ∷ ys) = cond (ltb x y) less (cond (ltb y x) greater (order xs ys))

abbrev pub is_less : Order → Bool
is_less less = true
is_less equal = false
is_less greater = false

-- whether each element comes before the next
unfoldable pub rises : {A : Type 0} → (A → A → Bool) → List A → Bool
rises before [] = true
rises before (a ∷ []) = true
rises before (a ∷ (b ∷ l)) = before a b && rises before (b ∷ l)

-- ---- parts of the zero rule
abbrev pub is_zero : ℤ → Bool
is_zero z = eqb (nat_abs z) 0

-- a vector of zeros
abbrev pub zeros : List ℤ → Bool
zeros v = all is_zero v

-- a monomial without factors
abbrev pub factorless : List ℕ → Bool
factorless e = all (λ k. eqb k 0) e

-- whether the factor at place j occurs in some term
abbrev pub occurs : List Term → ℕ → Bool
occurs ts j = any (λ t. ltb 0 (get_or t.exponents j 0)) ts

-- ---- the tests
-- 4: a count is out of limits
unfoldable pub bad_counts : Zonotope → Bool
bad_counts s =
    eqb s.dimension 0
    || ltb max_dimension s.dimension
    || ltb max_factors (length s.identifiers)
    || ltb max_terms (length s.terms)
    || ltb max_generators (length s.generators)

-- 6: an identifier is not in 1 .. largest, or an exponent is too large
unfoldable pub bad_range : ℕ → Zonotope → Bool
bad_range largest s =
    any (λ k. eqb k 0 || ltb largest k) s.identifiers
    || any (λ t. any (λ e. ltb max_exponent e) t.exponents) s.terms

-- 7: identifiers or terms don't rise, a term or generator is zero, a term has no factor, or a factor no term
unfoldable pub bad_order : Zonotope → Bool
bad_order s =
    not (rises ltb s.identifiers)
    || not (rises (λ t u. is_less (order t.exponents u.exponents)) s.terms)
    || any (λ t. factorless t.exponents || zeros t.coefficients) s.terms
    || any zeros s.generators
    || not (all (occurs s.terms) (tab (length s.identifiers) (λ j. j)))

-- 8 for a given set, 10 for a finished result: a coordinate's span is too wide
unfoldable pub is_too_wide : Zonotope → Bool
is_too_wide s = any (λ i. ltb max_span (span s i)) (tab s.dimension (λ i. i))
