-- What a record means, and the record of a set: rows of 12 exponents and of 6 numbers, the rest 0.
use Rattle.std.specs.Prelude.{List, [], Bool, ◌||◌, ℕ, ◌/◌, ◌%◌, ltb, length, get_or, pos}
use Rattle.whole.specs.Tab.{tab}
use Rattle.model.specs.Set as Set
use Rattle.model.specs.Set.{Term, Zonotope, at}
use Rattle.model.specs.Library.{Given}
use Rattle.arrays.specs.Rows.{row}
use Rattle.arrays.specs.Spare.{in_rows, spare_ℕ, spare_ℤ}
use Rattle.zonotope.specs.declared.Radii.{Radii}
use Rattle.zonotope.specs.declared.WideRadii.{WideRadii}
use Rattle.zonotope.specs.declared.PolyZonotope.{PolyZonotope}

-- ---- radii
-- by their parts, at 32 and at 64 bits
abbrev pub parts_of : Radii → Set.Radii
parts_of r = record { carried = r.carried; rounded = r.rounded; folded = r.folded; given = r.given }

abbrev pub wide_parts_of : WideRadii → Set.Radii
wide_parts_of r = record { carried = r.carried; rounded = r.rounded; folded = r.folded; given = r.given }

-- made anew: nothing folded, nothing given
abbrev pub anew : List ℕ → List ℕ → WideRadii
anew carried rounded = record { carried = carried; rounded = rounded; folded = Set.blank 6; given = Set.blank 6 }

-- the radius of each of six coordinates
abbrev pub totals_of : Radii → List ℕ
totals_of r = tab 6 (Set.radius_of (parts_of r))

-- the first n numbers of each part, continued by zeros where there are fewer
abbrev pub firsts : ℕ → List ℕ → List ℕ
firsts n l = tab n (λ i. get_or l i 0)

abbrev pub first_parts : ℕ → Set.Radii → Set.Radii
first_parts n r = record {
  carried = firsts n r.carried;
  rounded = firsts n r.rounded;
  folded = firsts n r.folded;
  given = firsts n r.given;
}

-- ---- what a record means
unfoldable pub view : PolyZonotope → Zonotope
view s = record {
  dimension = s.dimension;
  identifiers = tab s.factors (λ i. get_or s.identifiers i 0);
  centre = tab s.dimension (λ i. get_or s.centre i (pos 0));
  terms = tab s.terms (λ t. record {
    exponents = row 12 0 s.exponents t s.factors;
    coefficients = row 6 (pos 0) s.coefficients t s.dimension;
  });
  generators = tab s.generators (λ g. row 6 (pos 0) s.vectors g s.dimension);
  radii = first_parts s.dimension (parts_of s.radii);
}

-- ---- the record of a set
abbrev pub no_term : Term
no_term = record { exponents = []; coefficients = [] }

abbrev pub packed_radii : Set.Radii → Radii
packed_radii r = record {
  carried = firsts 6 r.carried;
  rounded = firsts 6 r.rounded;
  folded = firsts 6 r.folded;
  given = firsts 6 r.given;
}

unfoldable pub pack : Zonotope → PolyZonotope
pack m = record {
  dimension = m.dimension;
  factors = length m.identifiers;
  terms = length m.terms;
  generators = length m.generators;
  identifiers = tab 12 (λ i. get_or m.identifiers i 0);
  centre = tab 6 (at m.centre);
  exponents = tab 480 (λ x. get_or (get_or m.terms (x / 12) no_term).exponents (x % 12) 0);
  coefficients = tab 240 (λ x. at (get_or m.terms (x / 6) no_term).coefficients (x % 6));
  vectors = tab 144 (λ x. at (get_or m.generators (x / 6) []) (x % 6));
  radii = packed_radii m.radii;
}

-- ---- whether a place that the counts leave unused isn't 0
abbrev pub spare_parts : Radii → ℕ → Bool
spare_parts r n =
    spare_ℕ r.carried 6 (λ i. ltb i n)
    || spare_ℕ r.rounded 6 (λ i. ltb i n)
    || spare_ℕ r.folded 6 (λ i. ltb i n)
    || spare_ℕ r.given 6 (λ i. ltb i n)

unfoldable pub spare : PolyZonotope → Bool
spare s =
    spare_ℕ s.identifiers 12 (λ i. ltb i s.factors)
    || spare_ℤ s.centre 6 (λ i. ltb i s.dimension)
    || spare_ℕ s.exponents 480 (in_rows 12 s.terms s.factors)
    || spare_ℤ s.coefficients 240 (in_rows 6 s.terms s.dimension)
    || spare_ℤ s.vectors 144 (in_rows 6 s.generators s.dimension)
    || spare_parts s.radii s.dimension

-- the record as the library reads it
abbrev pub given : PolyZonotope → Given
given s = record { set = view s; spare = spare s }
