-- What is asked of two sets before they are added, and the result by the factors of both.
use Rattle.std.specs.Prelude.{◌≡◌, [], ◌∷◌, true, false, ℕ, ◌≤◌, Result, Err}
use Rattle.std.proofs.Math.Option.{Option, none}
use Rattle.model.specs.Limits.{last_fresh}
use Rattle.model.specs.Set.{Zonotope}
use Rattle.model.specs.Field.{too_many}
use Rattle.model.specs.Run.{◌if◌, first_of}
use Rattle.zonotope.specs.declared.PolyZonotope.{PolyZonotope}
use Rattle.zonotope.specs.Valid.{passed}
use Rattle.zonotope.specs.declared.Cause.{Cause}
use Rattle.zonotope.specs.Answer.{cause_of, or_else}
use Rattle.answers.specs.Answer.{resulted}
use Rattle.answers.specs.Accepted.{AcceptedRecord}

-- two accepted records of one dimension
pub record Summable (a b : PolyZonotope) : Type 0 where
  pub first : AcceptedRecord a
  pub second : AcceptedRecord b
  pub same : b.dimension ≡ a.dimension

-- a next identifier that leaves room for twelve
pub record Next (next : ℕ) : Type 0 where
  pub few : next ≤ last_fresh

-- 9: there are too many factors together
abbrev pub of_factors : Zonotope → Zonotope → Option ℕ
of_factors s u = first_of ((9 if too_many s u) ∷ [])

pub factors_in : (s u : Zonotope) → of_factors s u ≡ none → too_many s u ≡ false
unfolding first_of
factors_in s u e = (passed (too_many s u) 9 e).0

module _ (s u : Zonotope) (p : Option ℕ) (m : Zonotope) where
  pub result-many : too_many s u ≡ true → Err (cause_of 9) ≡ resulted (or_else (of_factors s u) p) m
  unfolding first_of
  result-many e = rw e

  pub result_few : too_many s u ≡ false → {r : Result PolyZonotope Cause} → r ≡ resulted p m → r ≡ resulted (or_else (of_factors s u) p) m
  unfolding first_of
  result_few e h = rw e h
