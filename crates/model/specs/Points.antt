-- The points of a set at given factor values: rationals, in units of the last place.
use Rattle.std.specs.Prelude.{◌≡◌, List, [], ◌∷◌, ℕ, ◌<◌, length, ℤ, pos}
use Rattle.rational.specs.Rational.{ℚ, ◌+ℚ◌, ◌*ℚ◌, ι, 0ℚ, 1ℚ}
use Rattle.rational.specs.Bounds.{Within}
use Rattle.rational.specs.Near.{Near}
use Rattle.rational.specs.Power.{power}
use Rattle.rational.specs.Sum.{sum, All}
use Rattle.model.specs.Set.{Term, Zonotope, at, radius}

-- a number for each coordinate, or for each identifier
abbrev pub Vector : Type 0
Vector = ℕ → ℚ

-- the product of the factors' powers, where α has a value for each identifier
unfoldable pub monomial : Vector → List ℕ → List ℕ → ℚ
monomial α [] es = 1ℚ
monomial α (k ∷ ks) [] = 1ℚ
monomial α (k ∷ ks) (e ∷ es) = power (α k) e *ℚ monomial α ks es

-- what the terms come to in coordinate i
unfoldable pub terms_at : Vector → List ℕ → List Term → ℕ → ℚ
terms_at α ids ts i = sum (λ t. ι (at t.coefficients i) *ℚ monomial α ids t.exponents) ts

-- what the generators come to, each times its own number
unfoldable pub generators_at : List (List ℤ) → List ℚ → ℕ → ℚ
generators_at [] bs i = 0ℚ
generators_at (g ∷ gs) [] i = 0ℚ
generators_at (g ∷ gs) (b ∷ bs) i = ι (at g i) *ℚ b +ℚ generators_at gs bs i

-- centre, terms and generators together
unfoldable pub value_at : Zonotope → Vector → List ℚ → ℕ → ℚ
value_at s α numbers i =
    ι (at s.centre i) +ℚ terms_at α s.identifiers s.terms i +ℚ generators_at s.generators numbers i

-- x is a point of s at the factor values α: for some generator numbers in [-1,1] each coordinate is within its radius of the value
pub record Point (s : Zonotope) (α x : Vector) : Type 0 where
  pub numbers : List ℚ
  pub one_each : length numbers ≡ length s.generators
  pub in_range : All (λ b. Within b 1ℚ) numbers
  pub near : (i : ℕ) → i < s.dimension → Near (x i) (value_at s α numbers i) (ι (pos (radius s i)))

-- every value is in [-1,1]
abbrev pub InRange : Vector → Type 0
InRange α = (k : ℕ) → Within (α k) 1ℚ
