-- The kinds of field: what each means, and its tag.
use Rattle.std.specs.Prelude.{◌≡◌, refl, Result, MatchResult, ℕ, ◌<◌, ◌≤◌}
use Rattle.std.proofs.Common.{ap, arith}
use Rattle.model.specs.Limits.{last_tag}
use Rattle.model.specs.Field as Model
use Rattle.model.specs.Field.{start, step, disturbance, independent, tied, reduction, check, hull, ranged_step, unknown, describe}
use Rattle.model.specs.Run.{kind_of}
use Rattle.zonotope.specs.declared.Cause.{Cause}
use Rattle.zonotope.specs.declared.Cause.TheVariants.{Tag}
use Rattle.fields.specs.declared.Kind.{Kind}
use Rattle.fields.specs.declared.Kind.TheVariants as kind

-- what a kind means
abbrev pub meant : Kind → Model.Kind
meant kind.Start = start
meant kind.Step = step
meant kind.Disturbance = disturbance
meant kind.IndependentSum = independent
meant kind.TiedSum = tied
meant kind.Reduction = reduction
meant kind.Check = check
meant kind.Hull = hull
meant kind.RangedStep = ranged_step

-- its tag
abbrev pub tag_of : Kind → ℕ
tag_of k = (describe (meant k)).tag

-- the result is the kind with this tag, or 2 where no kind has it
abbrev pub OfTag : ℕ → Result Kind Cause → Type 0
OfTag t r = MatchResult r (λ k. tag_of k ≡ t) (λ e. (e ≡ Tag) × (1 ≤ t → last_tag < t))

-- ---- laws
-- the definitions know every kind, by its tag
pub kind_is : (k : Kind) → kind_of (tag_of k) ≡ meant k
unfolding kind_of
kind_is kind.Start = refl
kind_is kind.Step = refl
kind_is kind.Disturbance = refl
kind_is kind.IndependentSum = refl
kind_is kind.TiedSum = refl
kind_is kind.Reduction = refl
kind_is kind.Check = refl
kind_is kind.Hull = refl
kind_is kind.RangedStep = refl

pub tagged : (k : Kind) → (1 ≤ tag_of k) × (tag_of k ≤ last_tag)
tagged kind.Start = (omega arith, omega arith)
tagged kind.Step = (omega arith, omega arith)
tagged kind.Disturbance = (omega arith, omega arith)
tagged kind.IndependentSum = (omega arith, omega arith)
tagged kind.TiedSum = (omega arith, omega arith)
tagged kind.Reduction = (omega arith, omega arith)
tagged kind.Check = (omega arith, omega arith)
tagged kind.Hull = (omega arith, omega arith)
tagged kind.RangedStep = (omega arith, omega arith)

pub known : (k : Kind) → meant k ≡ unknown → ⊥
known k e = omega (arith, (tagged k).0, ap (λ (j : Model.Kind). (describe j).tag) e)
