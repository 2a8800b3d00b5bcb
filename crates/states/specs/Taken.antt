-- One field given to a state of a run: the answer and the state that it leaves.
use Rattle.std.specs.Prelude.{List, ℕ, length}
use Rattle.model.specs.Run.{answer, after}
use Rattle.states.specs.declared.State.{State}
use Rattle.states.specs.declared.Fielded.{Fielded}
use Rattle.states.specs.State.{viewed, left}
use Rattle.states.specs.Answer.{answer_of}

-- the field f, which begins at this place
unfoldable pub taken : ℕ → State → List ℕ → Fielded
taken place st f = record { answer = answer_of (answer place (viewed st) f) (length f); state = left st (after (viewed st) f) }
