-- A set: a sparse polynomial zonotope (Definition 1 of source document 001) with the independent part kept as generators and radii.
-- All its numbers are whole multiples of 1/4096 of the user's unit (document 01: grains).
use Rattle.std.specs.Prelude.{List, [], ◌∷◌, ℕ, ◌+◌, get_or, ℤ, pos, nat_abs, ◌+ℤ◌}
use Rattle.whole.specs.Sum.{sum_ℕ}
use Rattle.whole.specs.Tab.{tab}

-- a monomial in the factors, one exponent each, with a coefficient for each coordinate
pub record Term : Type 0 where
  pub exponents : List ℕ
  pub coefficients : List ℤ

-- the radii (document 01: the skirt) by where they came from, each part with a number for each coordinate: what a step or a hull carried
-- on, what rounding added, what folding added, and what a set or a disturbance gave
pub record Radii : Type 0 where
  pub carried : List ℕ
  pub rounded : List ℕ
  pub folded : List ℕ
  pub given : List ℕ

-- factors are told apart by identifiers; a radius bounds a coordinate's offset
pub record Zonotope : Type 0 where
  pub dimension : ℕ
  pub identifiers : List ℕ
  pub centre : List ℤ
  pub terms : List Term
  pub generators : List (List ℤ)
  pub radii : Radii

-- the set s with another centre, terms, generators and radii, in the same coordinates and factors
abbrev pub with : Zonotope → List ℤ → List Term → List (List ℤ) → Radii → Zonotope
with s centre terms generators radii = record {
  dimension = s.dimension;
  identifiers = s.identifiers;
  centre = centre;
  terms = terms;
  generators = generators;
  radii = radii;
}

-- the number at place i of a vector, 0 past its end
abbrev pub at : List ℤ → ℕ → ℤ
at v i = get_or v i (pos 0)

-- the radius of coordinate i: its parts together
unfoldable pub radius_of : Radii → ℕ → ℕ
radius_of r i = get_or r.carried i 0 + get_or r.rounded i 0 + get_or r.folded i 0 + get_or r.given i 0

abbrev pub radius : Zonotope → ℕ → ℕ
radius s i = radius_of s.radii i

-- the sizes at coordinate i of all terms together, and of all generators together
unfoldable pub term_sizes : Zonotope → ℕ → ℕ
term_sizes s i = sum_ℕ (λ t. nat_abs (at t.coefficients i)) s.terms

unfoldable pub generator_sizes : Zonotope → ℕ → ℕ
generator_sizes s i = sum_ℕ (λ g. nat_abs (at g i)) s.generators

-- of the generators and the radius together
abbrev pub independent_size : Zonotope → ℕ → ℕ
independent_size s i = generator_sizes s i + radius s i

-- the span of coordinate i: no point of the set is further from 0
unfoldable pub span : Zonotope → ℕ → ℕ
span s i = nat_abs (at s.centre i) + term_sizes s i + generator_sizes s i + radius s i

-- ---- sums of vectors, number by number; the shorter one counts as continued by zeros
unfoldable pub longer : {A : Type 0} → (A → A → A) → List A → List A → List A
longer add [] ys = ys
longer add (x ∷ xs) [] = x ∷ xs
longer add (x ∷ xs) (y ∷ ys) = add x y ∷ longer add xs ys

abbrev pub plus_ℤ : List ℤ → List ℤ → List ℤ
plus_ℤ u v = longer ◌+ℤ◌ u v

abbrev pub plus_ℕ : List ℕ → List ℕ → List ℕ
plus_ℕ u v = longer ◌+◌ u v

-- ---- radii by their parts
-- sums of like parts
abbrev pub plus_radii : Radii → Radii → Radii
plus_radii r q = record {
  carried = plus_ℕ r.carried q.carried;
  rounded = plus_ℕ r.rounded q.rounded;
  folded = plus_ℕ r.folded q.folded;
  given = plus_ℕ r.given q.given;
}

-- with other folded parts
abbrev pub with_folded : Radii → List ℕ → Radii
with_folded r f = record { carried = r.carried; rounded = r.rounded; folded = f; given = r.given }

-- 0 for each of n coordinates
abbrev pub blank : ℕ → List ℕ
blank n = tab n (λ i. 0)

-- of n coordinates: all of it given
abbrev pub given_only : ℕ → List ℕ → Radii
given_only n r = record { carried = blank n; rounded = blank n; folded = blank n; given = r }
