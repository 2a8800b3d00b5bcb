-- What a call answers: the changed set, or a refusal with the first set as it came.
use Rattle.std.specs.Prelude.{◌≡◌, refl, true, false, ℕ, [], ◌∷◌, Result, Ok, Err, ⊤}
use Rattle.std.specs.Result.{IsErrAnd}
use Rattle.std.proofs.Common.{◌∙◌, sym, ap}
use Rattle.std.proofs.Math.Option.{Option, none, some}
use Rattle.model.specs.Set.{Zonotope}
use Rattle.model.specs.Run.{◌if◌, first_of}
use Rattle.model.specs.Valid.{is_too_wide}
use Rattle.zonotope.specs.declared.PolyZonotope.{PolyZonotope}
use Rattle.zonotope.specs.declared.Cause.{Cause}
use Rattle.zonotope.specs.Record.{pack}
use Rattle.zonotope.specs.Valid.{passed}
use Rattle.zonotope.specs.Answer.{Examined, Accepted, Refused, cause_of, examined, nothing_found, passed_on, or_else}
use Rattle.answers.specs.declared.Changed.{Changed}

-- refused with a number: its cause; else the record of m
abbrev pub resulted : Option ℕ → Zonotope → Result PolyZonotope Cause
resulted none m = Ok (pack m)
resulted (some n) m = Err (cause_of n)

-- the same as a call answers it: refused, with the set s as it came
abbrev pub answered : Option ℕ → PolyZonotope → Zonotope → Changed
answered none s m = record { outcome = Accepted; set = pack m }
answered (some n) s m = record { outcome = Refused n; set = s }

-- a result as the answer of a call on the set s
abbrev pub answer : PolyZonotope → Result PolyZonotope Cause → Changed
answer s (Ok t) = record { outcome = Accepted; set = t }
answer s (Err e) = record { outcome = Err e; set = s }

-- 10: the result is too wide
abbrev pub of_result : Zonotope → Option ℕ
of_result m = first_of ((10 if is_too_wide m) ∷ [])

-- a finished result
abbrev pub settled : Zonotope → Result PolyZonotope Cause
settled m = resulted (of_result m) m

-- ---- what is asked in two parts, o and then p: where o refuses, and where it doesn't
module _ (o p : Option ℕ) where
  pub refused-first : {c : Cause} {r : Examined} → Err c ≡ examined o → IsErrAnd r (λ e. e ≡ c) → r ≡ examined (or_else o p)
  refused-first e f = passed_on (λ o. examined (or_else o p)) (λ n. refl) o e f

  pub asked-next : {u : ⊤} → Ok u ≡ examined o → {r : Examined} → r ≡ examined p → r ≡ examined (or_else o p)
  asked-next e h = rw (nothing_found o e) h

  -- the result of a call that asks them
  module _ {w : Option ℕ} (order : w ≡ or_else o p) (m : Zonotope) where
    pub result-refused : {c : Cause} {r : Result PolyZonotope Cause} → Err c ≡ examined o → IsErrAnd r (λ e. e ≡ c) → r ≡ resulted w m
    result-refused e f =
        passed_on (λ o. resulted (or_else o p) m) (λ n. refl) o e f ∙ ap (λ o. resulted o m) (sym order)

    pub result-next : {u : ⊤} → Ok u ≡ examined o → {r : Result PolyZonotope Cause} → r ≡ resulted p m → r ≡ resulted w m
    result-next e h = rw (order, nothing_found o e) h

-- ---- from the result
pub result-narrow : (m : Zonotope) → of_result m ≡ none → is_too_wide m ≡ false
unfolding first_of
result-narrow m e = (passed (is_too_wide m) 10 e).0

module _ (m : Zonotope) where
  pub settled-wide : is_too_wide m ≡ true → Err (cause_of 10) ≡ settled m
  unfolding first_of
  settled-wide e = rw e

  pub settled-narrow : {t : PolyZonotope} → t ≡ pack m → is_too_wide m ≡ false → Ok t ≡ settled m
  unfolding first_of
  settled-narrow p e = rw (e, p)
