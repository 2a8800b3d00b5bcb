-- Sums over lists, and `All`.
use Rattle.std.specs.Prelude.{◌≡◌}
use Rattle.std.proofs.Math.Path.{refl, sym, ap, fun_ext}
use Rattle.std.proofs.Common.{◌∙◌}
use mathlib.Core.List.{List, [], ◌∷◌, ◌++◌, map}
use Rattle.rational.specs.Rational.{ℚ, ◌+ℚ◌, ◌*ℚ◌, 0ℚ}
use Rattle.rational.specs.Bounds.{Within}
use Rattle.rational.specs.Near.{Near}

-- f at each element, added up.
unfoldable pub sum : {A : Type 0} → (A → ℚ) → List A → ℚ
sum f [] = 0ℚ
sum f (a ∷ l) = f a +ℚ sum f l

-- P holds of every element.
pub data All {A : Type 0} (P : A → Type 0) : List A → Type 0 where
  none : All P []
  more : {a : A} {l : List A} → P a → All P l → All P (a ∷ l)
