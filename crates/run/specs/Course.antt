-- How far a run over a whole input has come, and what is still to come.
use Rattle.std.specs.Prelude.{◌≡◌, List, Bool, false, ◌||◌, ℕ, ◌≤◌, length, drop}
use Rattle.model.specs.Run as Model
use Rattle.model.specs.Run.{begin, fields, run}
use Rattle.model.specs.Rest.{fields_left}
use Rattle.model.proofs.Sound.{Sound}
use Rattle.states.specs.declared.State.{State}
use Rattle.states.specs.declared.Answer.{Answer}
use Rattle.states.specs.State.{record_of}
use Rattle.run.specs.Whole.{last_answer, any_worked, no_answer}

-- before the field at this place, in this state: the definitions' state u beside it, and what is still to come gives what the whole input
-- gives
pub record Coursing (input : List ℕ) (at : ℕ) (st : State) (worked : Bool) (u : Model.State) : Type 0 where
  pub record_is : st ≡ record_of u
  pub sound : Sound u
  pub on : u.over ≡ false
  pub within : at ≤ length input
  pub more : at ≡ length input → u.count ≡ 0
  pub states : run (fields_left u.count (drop at input)) u ≡ run (fields input) begin
  pub lasts : last_answer at u (fields_left u.count (drop at input)) no_answer ≡ last_answer 0 begin (fields input) no_answer
  pub works : (worked || any_worked u (fields_left u.count (drop at input))) ≡ any_worked begin (fields input)

-- a run that came to its end
pub record Ended (input : List ℕ) (last : Answer) (st : State) (worked : Bool) : Type 0 where
  pub state : st ≡ record_of (run (fields input) begin)
  pub last_is : last ≡ last_answer 0 begin (fields input) no_answer
  pub works : worked ≡ any_worked begin (fields input)
