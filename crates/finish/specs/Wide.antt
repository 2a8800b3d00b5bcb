-- Sets in rows of fixed width, as code keeps them: exponents continued by zeros to 12, numbers to 6.
use Rattle.std.specs.Prelude.{List, map, ℕ, get_or, ℤ, pos}
use Rattle.whole.specs.Tab.{tab}
use Rattle.model.specs.Set.{Term, Radii, Zonotope}
use Rattle.model.specs.Finish.{Core, Folded}
use Rattle.zonotope.specs.Record.{first_parts}

-- the first n elements, continued by d where there are fewer
abbrev pub padded : {A : Type 0} → ℕ → A → List A → List A
padded n d l = tab n (λ i. get_or l i d)

-- a vector of 6 numbers, a part of radii, and radii of 6 coordinates
abbrev pub wide_vector : List ℤ → List ℤ
wide_vector v = padded 6 (pos 0) v

abbrev pub wide_part : List ℕ → List ℕ
wide_part r = padded 6 0 r

abbrev pub wide_radii : Radii → Radii
wide_radii r = first_parts 6 r

-- a term of 12 exponents and 6 coefficients
abbrev pub wide_term : Term → Term
wide_term t = record { exponents = padded 12 0 t.exponents; coefficients = wide_vector t.coefficients }

-- a term of 6 coefficients, with its own exponents
abbrev pub wide_coefficients : Term → Term
wide_coefficients t = record { exponents = t.exponents; coefficients = wide_vector t.coefficients }

-- a centre and radii of 6 coordinates, also with what is left of a list, each element changed
abbrev pub wide_core : Core → Core
wide_core k = record { centre = wide_vector k.centre; radii = wide_part k.radii }

abbrev pub wide_folded : {A B : Type 0} → (A → B) → Folded A → Folded B
wide_folded widen f = record { core = wide_core f.core; kept = map widen f.kept }

-- the set with every vector of 6 numbers and its terms changed by `widen`
abbrev widened : (Term → Term) → Zonotope → Zonotope
widened widen s = record {
  dimension = s.dimension;
  identifiers = s.identifiers;
  centre = wide_vector s.centre;
  terms = map widen s.terms;
  generators = map wide_vector s.generators;
  radii = wide_radii s.radii;
}

-- the set in rows of 12 exponents and of 6 numbers
unfoldable pub wide : Zonotope → Zonotope
wide s = widened wide_term s

-- the set in rows of 6 numbers, with its own exponents
unfoldable pub wide_numbers : Zonotope → Zonotope
wide_numbers s = widened wide_coefficients s
