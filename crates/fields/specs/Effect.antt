-- What a field of a kind does to a set, and the same by what the kind's call answers.
use Rattle.std.specs.Prelude.{◌≡◌, refl, List, Bool, true, false, ℕ, Result, Ok, Err}
use Rattle.std.proofs.Common.{sym, ap, ◌∙◌}
use Rattle.std.proofs.Math.Option.{Option, none, some}
use Rattle.model.specs.Set.{Zonotope}
use Rattle.model.specs.Operations.{box}
use Rattle.model.specs.Field as Model
use Rattle.model.specs.Field.{Kind, inside, verdict, refused, skipped, meaning}
use Rattle.zonotope.specs.declared.PolyZonotope.{PolyZonotope}
use Rattle.zonotope.specs.declared.Cause.{Cause}
use Rattle.zonotope.specs.Record.{view, pack}
use Rattle.zonotope.specs.Answer.{cause_of}
use Rattle.verdicts.specs.declared.Verdict.{Verdict}
use Rattle.verdicts.specs.declared.Verdict.TheVariants as judgement
use Rattle.raw.specs.Append.{KeptFrom}
use Rattle.answers.specs.Answer.{resulted}
use Rattle.fields.specs.declared.Found.{Found}
use Rattle.fields.specs.declared.Found.TheVariants.{Inside, Safe, Unknown}
use Rattle.fields.specs.declared.Effect.{Effect}
use Rattle.fields.specs.Refusal.{body_refusal, result_of}

-- ---- definitions
-- the case of what an accepted field is answered; neither of the last two is
abbrev pub found_of : Model.Outcome → Found
found_of (inside b) = Inside
found_of (verdict true) = Safe
found_of (verdict false) = Unknown
found_of (refused n place) = Unknown
found_of skipped = Unknown

-- what a field that means m does to a set, or the cause of the number that refuses it
abbrev pub effect_by : Option ℕ → Model.Meaning → Result Effect Cause
effect_by none m = Ok (record { found = found_of m.outcome; set = pack m.result; next = m.next })
effect_by (some n) m = Err (cause_of n)

-- where it is of the kind k and its body is b
unfoldable pub effect : Kind → List ℕ → ℕ → PolyZonotope → Result Effect Cause
effect k b next s = effect_by (body_refusal k b next (view s)) (meaning k b next (view s))

-- a work slice of which the first n places are used only where a field was worked out
pub record Used {A : Type 0} (yes : Bool) (d : A) (n : ℕ) (before after : List A) : Type 0 where
  pub untouched : yes ≡ false → after ≡ before
  pub kept : KeptFrom d n before after

-- ---- by what its call answers
-- with another set
abbrev pub boxed_by : Result PolyZonotope Cause → ℕ → Result Effect Cause
boxed_by (Ok t) after = Ok (record { found = Inside; set = t; next = after })
boxed_by (Err c) after = Err c

-- with a verdict, which leaves the set
abbrev pub judged_by : Result Verdict Cause → PolyZonotope → ℕ → Result Effect Cause
judged_by (Ok judgement.Safe) first next = Ok (record { found = Safe; set = first; next = next })
judged_by (Ok judgement.Unknown) first next = Ok (record { found = Unknown; set = first; next = next })
judged_by (Err c) first next = Err c

-- a field that answers with the box of what it leaves
abbrev pub Boxed : Kind → List ℕ → ℕ → Zonotope → Type 0
Boxed k b next s = (meaning k b next s).outcome ≡ inside (box (result_of k b next s))

-- A kind whose call answers with the set that it leaves, or with the cause that refuses it, does that.
module _ (k : Kind) (b : List ℕ) (next : ℕ) (s : PolyZonotope) (boxed : Boxed k b next (view s)) where
  pub boxed_effect : {r : Result PolyZonotope Cause} → r ≡ resulted (body_refusal k b next (view s)) (result_of k b next (view s))
      → {after : ℕ} → after ≡ (meaning k b next (view s)).next → {f : Result Effect Cause} → f ≡ boxed_by r after → f ≡ effect k b next s
  unfolding effect
  boxed_effect {r} from {after} e p =
      p ∙ ap (λ (y : Result PolyZonotope Cause). boxed_by y after) from ∙ go (body_refusal k b next (view s))
    where
      go : (o : Option ℕ) → boxed_by (resulted o (result_of k b next (view s))) after ≡ effect_by o (meaning k b next (view s))
      go none = λ i. Ok (record { found = found_of (sym boxed i); set = pack (result_of k b next (view s)); next = e i })
      go (some n) = refl
