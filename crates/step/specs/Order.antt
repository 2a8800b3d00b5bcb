-- The refusal of a call with work slices by its parts: room in the slices, the set, the call's own causes, the result.
use Rattle.std.specs.Prelude.{◌≡◌, List, Bool, true, not, cond, ℕ, ◌≤◌, eqb}
use Rattle.std.proofs.Math.Option.{Option, none, some}
use Rattle.whole.specs.Tab.{all}
use Rattle.model.specs.Run.{Cause, first_of}
use Rattle.model.specs.Library.{Given, examine}
use Rattle.zonotope.specs.declared.PolyZonotope.{PolyZonotope}
use Rattle.zonotope.specs.Answer.{or_else}
use Rattle.answers.specs.Accepted.{AcceptedRecord}
use Rattle.stepping.specs.Work.{work_numbers, work_exponents}

-- room, then the set
abbrev pub of_room_and_set : Bool → Given → Option ℕ
of_room_and_set short g = cond short (some 13) (examine g)

-- before the result is looked at: then the call's own causes
abbrev pub before_stepping : Bool → Given → List Cause → Option ℕ
before_stepping short g own = or_else (of_room_and_set short g) (first_of own)

-- ---- whether the step is worked out
-- no cause has the number of a result that is too wide
abbrev pub NoTen : List Cause → Type 0
NoTen k = all (λ c. not (eqb c.number 10)) k ≡ true

-- ---- what is left where nothing refuses
-- room, an accepted set, no cause of the call's own
pub record Acceptable (s : PolyZonotope) (causes : List Cause) (numbers exponents : ℕ) : Type 0 where
  pub set : AcceptedRecord s
  pub own : first_of causes ≡ none
  pub numbers_room : work_numbers ≤ numbers
  pub exponents_room : work_exponents ≤ exponents
