-- Promised of what is printed: an output, as a person reads it, is true of every motion that the input allows.
use mathlib.Core.Path.{◌≡◌}
use mathlib.Core.List.{List, ◌++◌}
use Prim.Native.Nat.{ℕ, ◌<◌}
use lib.ListN.{length, take, drop}
use Rattle.model.specs.Run.{fields}
use Rattle.model.specs.Text.{printed}
use Rattle.model.specs.Motion.{Picks, Allowed}
use Rattle.model.specs.Reading.{line_at}
use Rattle.model.specs.Promised.{Promised, Begun, AllowedBefore, accepted_fields, field_at, place_of, coordinates, position, TrueOf}
use Rattle.model.proofs.Promise as Promise
use Rattle.model.proofs.SomeMotion as SomeMotion
use Rattle.model.proofs.Extended as Extended
use Rattle.model.proofs.Places as Places

-- What is printed for an input has a line for each accepted field, in order, each true of every motion inside its limits, and closes with
-- the totals and the end, or with the refusal.
pub promise : (input : List ℕ) → Promised input (printed input)
promise = Promise.promise

-- Of every way in which an output begins each whole line is true.
pub begun : (input output later : List ℕ) → printed input ≡ output ++ later → Begun input output
begun = Promise.begun

-- Every input allows a motion.
pub some_motion : (fs : List (List ℕ)) → (p : Picks) × Allowed p fs
some_motion = SomeMotion.some_motion

-- What an output says that keeps the promise is true of every motion that keeps its limits at the accepted fields.
pub true_of_accepted : (input output : List ℕ) → Promised input output → (p : Picks)
    → AllowedBefore (accepted_fields input) p (fields input) → (m : ℕ) → m < accepted_fields input
    → TrueOf (field_at input m) (coordinates input m) (position p input m) (line_at output m)
true_of_accepted = Extended.true_of_accepted

-- A field stands in the input at its place.
pub field_stands : (input : List ℕ) (m : ℕ) → m < length (fields input)
    → take (length (field_at input m)) (drop (place_of (fields input) m) input) ≡ field_at input m
field_stands = Places.field_stands
