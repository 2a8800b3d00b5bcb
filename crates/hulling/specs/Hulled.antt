-- The result of a hull: 9 where there are too many factors, else that for the finished blend.
use Rattle.std.specs.Prelude.{◌≡◌, [], ◌∷◌, true, false, ℕ, ◌+◌, ◌<◌, Result, Err}
use Rattle.std.proofs.Math.Path.{ap}
use Rattle.std.proofs.Math.Option.{Option}
use Rattle.std.proofs.Common.{arith, ltb-false}
use Rattle.std.proofs.Math.Dec.{ltb}
use Rattle.model.specs.Field.{too_many_blended}
use Rattle.model.specs.Limits.{max_factors}
use Rattle.model.specs.Run.{◌if◌, first_of}
use Rattle.model.specs.Set.{Zonotope}
use Rattle.model.specs.Operations.{joined}
use Rattle.zonotope.specs.declared.PolyZonotope.{PolyZonotope}
use Rattle.zonotope.specs.declared.Cause.{Cause}
use Rattle.zonotope.specs.Answer.{cause_of, or_else}
use Rattle.align.specs.declared.Identifiers.{Identifiers}
use Rattle.align.specs.Sum.{Factors, Common}
use Rattle.answers.specs.Answer.{resulted}

-- 9: there are too many factors with the blending factor
abbrev pub of_blended : Zonotope → Zonotope → Option ℕ
of_blended s u = first_of ((9 if too_many_blended s u) ∷ [])

module _ (s u : Zonotope) (p : Option ℕ) (m : Zonotope) where
  pub blended-many : too_many_blended s u ≡ true → Err (cause_of 9) ≡ resulted (or_else (of_blended s u) p) m
  unfolding first_of
  blended-many e = rw e

  pub blended_few : too_many_blended s u ≡ false → {r : Result PolyZonotope Cause} → r ≡ resulted p m
      → r ≡ resulted (or_else (of_blended s u) p) m
  unfolding first_of
  blended_few e h = rw e h

module _ (s u : Zonotope) {all : Identifiers} (f : Factors (joined s u) all) where
  pub blended-factors : ltb max_factors (all.count + 1) ≡ too_many_blended s u
  unfolding joined
  blended-factors = ap (λ (n : ℕ). ltb max_factors (n + 1)) f.number

  pub blended_common : ltb max_factors (all.count + 1) ≡ false → Common (joined s u) all × (all.count < 12)
  blended_common e =
      let l = ltb-false max_factors (all.count + 1) e in
      (record { few = omega arith; identifiers = f.identifiers }, omega arith)
