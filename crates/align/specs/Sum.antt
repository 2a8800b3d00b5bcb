-- The sum of two sets before finishing, as rows of fixed width: which sum is meant, and what the functions promise of it.
use Rattle.std.specs.Prelude.{◌≡◌, List, map, ℕ, ◌*◌, ◌≤◌, length, get_or, ℤ, pos, nat_abs}
use Rattle.whole.specs.Tab.{tab}
use Rattle.model.specs.Limits.{max_span}
use Rattle.model.specs.Set.{Term, Zonotope, at, radius}
use Rattle.model.specs.Operations.{joined}
use Rattle.zonotope.specs.declared.PolyZonotope.{PolyZonotope}
use Rattle.zonotope.specs.Record.{wide_parts_of, first_parts, view}
use Rattle.rows.specs.Rows.{number_row, rows_of, Small}
use Rattle.align.specs.declared.Identifiers.{Identifiers}
use Rattle.align.specs.declared.Sum.{Sum}
use Rattle.align.specs.Listed.{listed}
use Rattle.align.specs.Align.{aligned_at}

-- ---- rows of fixed width, 0 past the end
abbrev pub wide_vector : List ℤ → List ℤ
wide_vector v = tab 6 (at v)

abbrev pub wide_term : Term → Term
wide_term t = record { exponents = tab 12 (λ k. get_or t.exponents k 0); coefficients = wide_vector t.coefficients }

-- ---- the sum that is meant
-- a set with other identifiers
abbrev pub named : List ℕ → Zonotope → Zonotope
named ks u = record {
  dimension = u.dimension;
  identifiers = ks;
  centre = u.centre;
  terms = u.terms;
  generators = u.generators;
  radii = u.radii;
}

-- the sum of two records, where the identifiers of the second are the first ones of `ids`
abbrev pub summed : PolyZonotope → PolyZonotope → List ℕ → Zonotope
summed a b ids = joined (view a) (named (listed b.factors ids) (view b))

-- the exponents of a set, whose identifiers are the first ones of `ids`, in rows for the factors `all`
abbrev pub exponents_of : PolyZonotope → List ℕ → Identifiers → ℕ → ℕ → ℕ
exponents_of s ids all = aligned_at s.exponents s.factors ids all.count all.numbers

-- `all` holds the identifiers of the sum m
pub record Factors (m : Zonotope) (all : Identifiers) : Type 0 where
  pub identifiers : listed all.count all.numbers ≡ m.identifiers
  pub number : all.count ≡ length m.identifiers

-- `all` holds them, and there are few enough for a row
pub record Common (m : Zonotope) (all : Identifiers) : Type 0 where
  pub few : all.count ≤ 12
  pub identifiers : listed all.count all.numbers ≡ m.identifiers

-- ---- the terms of the sum m, in the first r rows of e and c, which held e₀ and c₀
pub record Terms (m : Zonotope) (e₀ e : List ℕ) (c₀ c : List ℤ) (r : ℕ) : Type 0 where
  pub rows : rows_of e c r ≡ map wide_term m.terms
  pub few : r ≤ 80
  pub small : Small max_span c
  pub exponents-kept : (x : ℕ) → r * 12 ≤ x → get_or e x 0 ≡ get_or e₀ x 0
  pub numbers-kept : (x : ℕ) → r * 6 ≤ x → get_or c x (pos 0) ≡ get_or c₀ x (pos 0)

-- its generators, in the first r rows of g
pub record Generators (m : Zonotope) (g₀ g : List ℤ) (r : ℕ) : Type 0 where
  pub rows : tab r (number_row g) ≡ map wide_vector m.generators
  pub few : r ≤ 48
  pub small : Small max_span g
  pub kept : (x : ℕ) → r * 6 ≤ x → get_or g x (pos 0) ≡ get_or g₀ x (pos 0)

-- the work space: long enough, and no number in it is larger than a set's
pub record Space (e : List ℕ) (c g : List ℤ) : Type 0 where
  pub exponents-long : 960 ≤ length e
  pub numbers-long : 480 ≤ length c
  pub generators_long : 288 ≤ length g
  pub numbers_small : Small max_span c
  pub generators_small : Small max_span g

-- the whole sum m, over the factors `all`
pub record Joined (m : Zonotope) (all : Identifiers) (s : Sum) (e₀ e : List ℕ) (c₀ c g₀ g : List ℤ) : Type 0 where
  pub common : Common m all
  pub terms : Terms m e₀ e c₀ c s.terms
  pub generators : Generators m g₀ g s.generators
  pub centre : s.centre ≡ wide_vector m.centre
  pub radii : wide_parts_of s.radii ≡ first_parts 6 m.radii
  pub centre_small : (i : ℕ) → nat_abs (at m.centre i) ≤ 2 * max_span
  pub radii_small : (i : ℕ) → radius m i ≤ 2 * max_span
