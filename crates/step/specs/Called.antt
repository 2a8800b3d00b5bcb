-- What a call results in and leaves in its work slices.
use Rattle.std.specs.Prelude.{◌≡◌, List, ℕ, ℤ, pos, Result}
use Rattle.std.proofs.Math.Option.{Option}
use Rattle.model.specs.Set.{Zonotope}
use Rattle.zonotope.specs.declared.PolyZonotope.{PolyZonotope}
use Rattle.zonotope.specs.declared.Cause.{Cause}
use Rattle.answers.specs.Answer.{resulted, settled}
use Rattle.stepping.specs.Work.{work_numbers, work_exponents}
use Rattle.step.specs.Answer.{cleared, left_in}

-- the result r of a call that is refused with this number or gives this set, and the slices before and after it
abbrev pub Called : Option ℕ → Zonotope → Result PolyZonotope Cause → List ℤ → List ℤ → List ℕ → List ℕ → Type 0
Called number result r w₀ w e₀ e =
    (r ≡ resulted number result) × ((w ≡ left_in number work_numbers (pos 0) w₀) × (e ≡ left_in number work_exponents 0 e₀))

-- the result r of a step that is worked out, and the slices then
abbrev pub WorkedOut : Zonotope → Result PolyZonotope Cause → List ℤ → List ℤ → List ℕ → List ℕ → Type 0
WorkedOut result r w₀ w e₀ e =
    (r ≡ settled result) × ((w ≡ cleared work_numbers (pos 0) w₀) × (e ≡ cleared work_exponents 0 e₀))
