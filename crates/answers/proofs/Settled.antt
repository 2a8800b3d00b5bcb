-- A result as a call answers it, and what finishing a set in wide form and the set itself give.
use Rattle.std.specs.Prelude.{◌≡◌, List, [], ◌∷◌, Bool, cond, ℕ, Result, Some, None}
use Rattle.std.specs.Option.{ok_or}
use Rattle.std.proofs.Math.Path.{refl}
use Rattle.std.proofs.Common.{sym, ap, ap₂, ◌∙◌}
use Rattle.std.proofs.Math.Bool.{true, false}
use Rattle.std.proofs.Math.Option.{Option, none, some}
use Rattle.model.specs.Set.{Zonotope}
use Rattle.model.specs.Valid.{is_too_wide}
use Rattle.model.specs.Finish.{finish}
use Rattle.model.specs.Run.{◌if◌, first_of}
use Rattle.zonotope.specs.declared.PolyZonotope.{PolyZonotope}
use Rattle.zonotope.specs.declared.Cause.{Cause}
use Rattle.zonotope.specs.Record.{pack}
use Rattle.zonotope.specs.Answer.{cause_of}
use Rattle.finish.specs.Held.{finished_as}
use Rattle.finish.specs.Wide.{wide}
use Rattle.finish.specs.WideFinish.{Narrow}
use Rattle.finish.specs.WideRecord.{finish-pack, finish-too_wide}
use Rattle.answers.specs.declared.Changed.{Changed}
use Rattle.answers.specs.Answer.{resulted, answered, answer, settled}

-- ---- the answer of a call for its result
pub answer-resulted : (o : Option ℕ) (s : PolyZonotope) (m : Zonotope) → answer s (resulted o m) ≡ answered o s m
answer-resulted none s m = refl
answer-resulted (some n) s m = refl

pub answered_as : (o : Option ℕ) (s : PolyZonotope) (m : Zonotope) {r : Result PolyZonotope Cause} {x : Changed}
    → x ≡ answer s r → r ≡ resulted o m → x ≡ answered o s m
answered_as o s m p e = p ∙ ap (answer s) e ∙ answer-resulted o s m

-- ---- a finished result, by whether it is too wide
abbrev settled_by : Bool → PolyZonotope → Result PolyZonotope Cause
settled_by w t = ok_or (cond w None (Some t)) (cause_of 10)

pub settled_as : (m : Zonotope) → ok_or (finished_as m) (cause_of 10) ≡ settled m
unfolding first_of
settled_as m = go (is_too_wide m)
  where
    go : (w : Bool) → settled_by w (pack m) ≡ resulted (first_of ((10 if w) ∷ [])) m
    go true = refl
    go false = refl

-- ---- a set in wide form and the set itself are finished alike
pub settled_wide : (weights : List ℕ) (h q : ℕ) (s : Zonotope) → Narrow s
    → settled (finish weights h q (wide s)) ≡ settled (finish weights h q s)
settled_wide weights h q s n =
    sym (settled_as (finish weights h q (wide s)))
    ∙ ap₂ settled_by (finish-too_wide weights h q s n) (finish-pack weights h q s n)
    ∙ settled_as (finish weights h q s)

-- so is a result that holds it
pub settled_held : (weights : List ℕ) (h q : ℕ) (s : Zonotope) → Narrow s → {m : Zonotope} → m ≡ wide s
    → {r : Result PolyZonotope Cause} → r ≡ settled (finish weights h q m) → r ≡ settled (finish weights h q s)
settled_held weights h q s n e p = p ∙ ap (λ (m : Zonotope). settled (finish weights h q m)) e ∙ settled_wide weights h q s n
