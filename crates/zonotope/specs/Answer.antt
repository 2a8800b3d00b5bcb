-- Document 01's number for each case of an answer, and what an answer tells of the causes.
use Rattle.std.specs.Prelude.{◌≡◌, refl, List, [], ◌∷◌, ◌++◌, Bool, true, false, cond, ℕ, ◌-◌, get_or, Result, Ok, Err, ⊤}
use Rattle.std.proofs.Math.Option.{Option, none, some}
use Rattle.std.specs.Result.{IsErrAnd}
use Rattle.std.proofs.Common.{sym, ap, ◌∙◌}
use Rattle.std.proofs.lemmas.Result.{err_from_is_err_and}
use Rattle.model.specs.Run.{Cause as Asked, first_of}
use Rattle.zonotope.specs.declared.Cause.{Cause}
use Rattle.zonotope.specs.declared.Cause.TheVariants.{
  Ended,
  Tag,
  Length,
  Count,
  Dimension,
  Range,
  Form,
  SetTooWide,
  TooManyFactors,
  ResultTooWide,
  NextIdentifier,
  TooManyFields,
  WorkTooShort,
  EmptyDisturbance,
}

-- ---- the causes by their numbers, 1 to 14
abbrev pub number_of : Cause → ℕ
number_of Ended = 1
number_of Tag = 2
number_of Length = 3
number_of Count = 4
number_of Dimension = 5
number_of Range = 6
number_of Form = 7
number_of SetTooWide = 8
number_of TooManyFactors = 9
number_of ResultTooWide = 10
number_of NextIdentifier = 11
number_of TooManyFields = 12
number_of WorkTooShort = 13
number_of EmptyDisturbance = 14

-- in the order of their numbers
abbrev pub causes : List Cause
causes = Ended ∷ Tag ∷ Length ∷ Count ∷ Dimension ∷ Range ∷ Form ∷ SetTooWide ∷ TooManyFactors ∷ ResultTooWide ∷ NextIdentifier
    ∷ TooManyFields ∷ WorkTooShort ∷ EmptyDisturbance ∷ []

-- the cause of a number; a number that isn't one of theirs is none that a definition gives
abbrev pub cause_of : ℕ → Cause
cause_of n = get_or causes (n - 1) Ended

pub numbered : (c : Cause) → cause_of (number_of c) ≡ c
numbered Ended = refl
numbered Tag = refl
numbered Length = refl
numbered Count = refl
numbered Dimension = refl
numbered Range = refl
numbered Form = refl
numbered SetTooWide = refl
numbered TooManyFactors = refl
numbered ResultTooWide = refl
numbered NextIdentifier = refl
numbered TooManyFields = refl
numbered WorkTooShort = refl
numbered EmptyDisturbance = refl

-- a number that is that of its cause, as those from 1 to 14 are
abbrev pub Numbered : ℕ → Type 0
Numbered n = number_of (cause_of n) ≡ n

-- ---- what examining says: that nothing refuses, or the cause of a number
abbrev pub Examined : Type 0
Examined = Result ⊤ Cause

abbrev pub Accepted : Examined
Accepted = Ok tt

abbrev pub Refused : ℕ → Examined
Refused n = Err (cause_of n)

abbrev pub examined : Option ℕ → Examined
examined none = Accepted
examined (some n) = Refused n

-- ---- what an answer tells
-- a refused set isn't accepted
pub refused : {P : Type 0} (n : ℕ) → Refused n ≡ Accepted → P
refused n e = absurd cc

-- the cause of a set that is accepted, and of one that is refused
pub accepted : (o : Option ℕ) → examined o ≡ Accepted → o ≡ none
accepted none e = refl
accepted (some n) e = refused n e

pub refused-with : (o : Option ℕ) {c : Cause} → examined o ≡ Err c → (n : ℕ) × (o ≡ some n) × (c ≡ cause_of n)
refused-with none e = absurd cc
refused-with (some n) e = (n, refl, cc)

-- the number of the cause, where the one that is found is that of its cause
pub refused-number : (o : Option ℕ) {c : Cause} → ((n : ℕ) → o ≡ some n → Numbered n) → examined o ≡ Err c → o ≡ some (number_of c)
refused-number none k e = absurd cc
refused-number (some n) {c} k e =
    let s : c ≡ cause_of n = cc in
    ap some (sym (ap number_of s ∙ k n refl))

-- where a test by o found nothing, no cause of o holds; where it found one, that is passed on
pub nothing_found : (o : Option ℕ) {u : ⊤} → Ok u ≡ examined o → o ≡ none
nothing_found o e = accepted o (sym e)

pub passed_on : {A : Type 0} (answer : Option ℕ → Result A Cause) → ((n : ℕ) → answer (some n) ≡ Err (cause_of n)) → (o : Option ℕ)
    {c : Cause} {r : Result A Cause} → Err c ≡ examined o → IsErrAnd r (λ e. e ≡ c) → r ≡ answer o
passed_on answer says none e f = absurd cc
passed_on answer says (some n) {c} {r} e f =
    let d : c ≡ cause_of n = cc in
    let p = err_from_is_err_and r f in
    rw (p.1, p.2, d) (sym (says n))

-- ---- the first cause of two lists of them
-- the first of two numbers that is there
abbrev pub or_else : Option ℕ → Option ℕ → Option ℕ
or_else none o = o
or_else (some n) o = some n

-- the second list is asked where no cause of the first holds
pub first_append : (k l : List Asked) → first_of (k ++ l) ≡ or_else (first_of k) (first_of l)
unfolding first_of
first_append [] l = refl
first_append (c ∷ k) l = by_case c.holds c.number (first_of (k ++ l)) (first_of k) (first_append k l)
  where
    by_case : (b : Bool) (n : ℕ) (x y : Option ℕ) → x ≡ or_else y (first_of l) → cond b (some n) x ≡ or_else (cond b (some n) y) (first_of l)
    by_case true n x y e = refl
    by_case false n x y e = e
