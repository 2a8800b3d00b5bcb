-- No state that `begin` and `field` lead to refuses a call: after any list of calls the next one is answered `Unfit` exactly where its
-- slices are too short, with 13. The theorem is `never_unfit`, in proofs/Reached.antt.
use Rattle.std.specs.Prelude.{◌≡◌, List, [], ◌∷◌, true, false}
use Rattle.zonotope.specs.declared.Cause.{Cause}
use Rattle.zonotope.specs.declared.Cause.TheVariants.{WorkTooShort}
use Rattle.states.specs.declared.State.{State}
use Rattle.states.specs.declared.Outcome.TheVariants.{Unfit}
use Rattle.states.specs.State.{beginning}
use Rattle.run.specs.Enclosed.{Call, short, called}

-- the state that the last of the calls returns, each of which is given the state that the one before returned
unfoldable pub state_after : State → List Call → State
state_after st [] = st
state_after st (c ∷ cs) = state_after (called st c).state cs

-- after any calls from `begin()` on, whatever bytes, places and slices they had: where the next call's slices are long enough its answer is
-- `Unfit` with no cause, and where one is too short it is `Unfit` with 13
abbrev pub NeverUnfit : Type 0
NeverUnfit = (calls : List Call) (c : Call)
    → let o = (called (state_after beginning calls) c).answer.outcome in
    (short c ≡ false → (d : Cause) → ¬ (o ≡ Unfit d)) × (short c ≡ true → o ≡ Unfit WorkTooShort)
