-- The lengths of a record's arrays, and the shape of a set that a record can hold.
use Rattle.std.specs.Prelude.{◌≡◌, List, ℕ, length, ℤ}
use Rattle.zonotope.specs.declared.Radii.{Radii}
use Rattle.zonotope.specs.declared.PolyZonotope.{PolyZonotope}

-- the arrays of radii have their lengths
pub record PartLengths (r : Radii) : Type 0 where
  pub carried : length r.carried ≡ 6
  pub rounded : length r.rounded ≡ 6
  pub folded : length r.folded ≡ 6
  pub given : length r.given ≡ 6

-- the arrays of a record have theirs
pub record Lengths (ids : List ℕ) (c : List ℤ) (e : List ℕ) (g v : List ℤ) (r : Radii) : Type 0 where
  pub identifiers : length ids ≡ 12
  pub centre : length c ≡ 6
  pub exponents : length e ≡ 480
  pub coefficients : length g ≡ 240
  pub vectors : length v ≡ 144
  pub radii : PartLengths r

abbrev pub Sized : PolyZonotope → Type 0
Sized s = Lengths s.identifiers s.centre s.exponents s.coefficients s.vectors s.radii
