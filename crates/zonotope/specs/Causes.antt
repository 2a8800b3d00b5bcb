-- The causes that refuse a set, by the places of its record's arrays.
use Rattle.std.specs.Prelude.{Bool, not, ◌||◌, ℕ, ◌+◌, ◌*◌, ltb, eqb, get_or, pos}
use Rattle.whole.specs.Tab.{tab, any}
use Rattle.whole.specs.Tests.{some_below, each_below}
use Rattle.model.specs.Limits.{max_dimension, max_factors, max_terms, max_generators}
use Rattle.model.specs.Valid.{order, is_less, rises, zeros, factorless}
use Rattle.arrays.specs.Rows.{row, identifier_out, exponent_out}
use Rattle.zonotope.specs.declared.PolyZonotope.{PolyZonotope}

-- 4: a count is out of limits
abbrev pub counts_out : PolyZonotope → Bool
counts_out s =
    eqb s.dimension 0 || ltb max_dimension s.dimension || ltb max_factors s.factors || ltb max_terms s.terms || ltb max_generators s.generators

-- 6: an identifier or an exponent is out of range
abbrev pub range_out : PolyZonotope → Bool
range_out s =
    any identifier_out (tab s.factors (λ i. get_or s.identifiers i 0))
    || some_below s.terms (λ t. any exponent_out (row 12 0 s.exponents t s.factors))

-- factor j occurs in a term
abbrev pub occurs_at : PolyZonotope → ℕ → Bool
occurs_at s j = some_below s.terms (λ t. ltb 0 (get_or s.exponents (t * 12 + j) 0))

-- 7, second: identifiers or terms don't rise, a term has no factor, a term or a generator is zero, or a factor has no term
abbrev pub order_out : PolyZonotope → Bool
order_out s =
    not (rises ltb (tab s.factors (λ i. get_or s.identifiers i 0)))
    || not (rises (λ u v. is_less (order u v)) (tab s.terms (λ t. row 12 0 s.exponents t s.factors)))
    || some_below s.terms (λ t. factorless (row 12 0 s.exponents t s.factors))
    || some_below s.terms (λ t. zeros (row 6 (pos 0) s.coefficients t s.dimension))
    || some_below s.generators (λ g. zeros (row 6 (pos 0) s.vectors g s.dimension))
    || not (each_below s.factors (occurs_at s))
