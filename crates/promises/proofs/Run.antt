-- Promised of the records that `field` and `run` return.
use mathlib.Core.Path.{◌≡◌}
use mathlib.Core.List.{List, []}
use mathlib.Core.Bool.{true, false}
use Prim.Native.Nat.{ℕ}
use Rattle.model.specs.Run.{fields, begin}
use Rattle.model.specs.Motion.{Picks, Allowed, beginning as atBeginning}
use Rattle.zonotope.specs.declared.Cause.{Cause}
use Rattle.zonotope.specs.declared.Cause.TheVariants.{WorkTooShort}
use Rattle.states.specs.declared.Outcome.TheVariants.{Unfit}
use Rattle.states.specs.State.{beginning}
use Rattle.run.specs.Whole.{ran_of}
use Rattle.run.specs.Enclosed.{Call, called, short, fields_taken, Always, begun, KeptAtEnd, last_field, follow_all}
use Rattle.run.specs.NeverUnfit.{state_after}
use Rattle.run.proofs.Enclosed as Enclosed
use Rattle.run.proofs.RunEnclosed as RunEnclosed
use Rattle.run.proofs.Reached as Reached

-- Demand 3, entire, of the code: whatever calls of `field` are made one after the other from `begin()`, after each accepted field every
-- motion that picks inside its limits is a point of the returned set and in the returned box, and not in a region that is called safe; a
-- call whose slices are too short takes no field and leaves state and motion.
pub enclosed : (calls : List Call) (p : Picks) → Allowed p (fields_taken calls) → Always p 0 (begun p) calls
enclosed = Enclosed.enclosed

-- The same of what `run` returns for a whole input.
pub run_enclosed : (input : List ℕ) (p : Picks) → Allowed p (fields input)
    → let r = ran_of false input in
    KeptAtEnd (last_field begin [] (fields input)) r.state r.last (follow_all p 0 (atBeginning p) (fields input))
run_enclosed = RunEnclosed.run_enclosed

-- After any calls from `begin()` the next one is answered `Unfit` exactly where its slices are too short, with 13.
pub never_unfit : (calls : List Call) (c : Call)
    → let o = (called (state_after beginning calls) c).answer.outcome in
    (short c ≡ false → (d : Cause) → ¬ (o ≡ Unfit d)) × (short c ≡ true → o ≡ Unfit WorkTooShort)
never_unfit = Reached.never_unfit
