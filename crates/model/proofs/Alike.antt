-- Two sets are alike where they have the same points at any factor values. What leaves the values of terms as they are leaves the points.
use mathlib.Core.Path.{◌≡◌, refl, sym, ap}
use mathlib.Core.List.{List}
use mathlib.Core.Logic.{◌↔◌}
use Prim.Native.Nat.{ℕ}
use Rattle.rational.specs.Rational.{◌+ℚ◌, ι}
use Rattle.rational.proofs.Near.{near_as}
use Rattle.model.specs.Set.{Term, Zonotope, at}
use Rattle.model.specs.Points.{Vector, terms_at, generators_at, value_at, Point}
use Rattle.model.proofs.Covers.{Covers}

pub record Alike (s u : Zonotope) : Type 0 where
  pub same : {α x : Vector} → Point s α x ↔ Point u α x

pub alike_trans : {s t u : Zonotope} → Alike s t → Alike t u → Alike s u
alike_trans a b = record { same = (λ p. b.same.0 (a.same.0 p), λ p. a.same.1 (b.same.1 p)) }

pub alike_covers : {s u : Zonotope} → Alike s u → Covers s u
alike_covers a = record { keeps = λ w p. a.same.0 p }

-- the set with other identifiers and terms
abbrev pub with_factors : Zonotope → List ℕ → List Term → Zonotope
with_factors s ids ts = record {
  dimension = s.dimension;
  identifiers = ids;
  centre = s.centre;
  terms = ts;
  generators = s.generators;
  radii = s.radii;
}

-- where the terms come to the same, a point stays a point
pub points_as : (s : Zonotope) {α β x : Vector} (ids : List ℕ) (ts : List Term)
    → ((i : ℕ) → terms_at α s.identifiers s.terms i ≡ terms_at β ids ts i) → Point s α x → Point (with_factors s ids ts) β x
unfolding value_at
points_as s ids ts e p = record {
  numbers = p.numbers;
  one_each = p.one_each;
  in_range = p.in_range;
  near = λ i h. near_as (p.near i h) (ap (λ z. ι (at s.centre i) +ℚ z +ℚ generators_at s.generators p.numbers i) (e i)) refl;
}

-- other identifiers and terms that come to the same at all factor values
pub alike_factors : (s : Zonotope) (ids : List ℕ) (ts : List Term)
    → ((α : Vector) (i : ℕ) → terms_at α s.identifiers s.terms i ≡ terms_at α ids ts i) → Alike s (with_factors s ids ts)
alike_factors s ids ts e = record {
  same = λ {α}. (
    points_as s ids ts (e α),
    points_as (with_factors s ids ts) s.identifiers s.terms (λ i. sym (e α i)),
  );
}
