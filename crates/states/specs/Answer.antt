-- Document 01's cause and values for each case of an answer.
use Rattle.std.specs.Prelude.{[], Bool, true, false, ℕ, length}
use Rattle.whole.specs.Tab.{tab}
use Rattle.model.specs.Set.{at}
use Rattle.model.specs.Operations.{Box}
use Rattle.model.specs.Field as Model
use Rattle.model.specs.Field.{inside, verdict, refused, skipped}
use Rattle.model.specs.Run as Run
use Rattle.zonotope.specs.declared.Cause.{Cause}
use Rattle.zonotope.specs.Answer.{cause_of}
use Rattle.states.specs.declared.Outcome.{Outcome}
use Rattle.states.specs.declared.Outcome.TheVariants.{Inside, Safe, Unknown, Refused, Skipped, Unfit}
use Rattle.states.specs.declared.Answer.{Answer}

-- the case of an outcome
abbrev pub outcome_of : Model.Outcome → Outcome
outcome_of (inside b) = Inside
outcome_of (verdict true) = Safe
outcome_of (verdict false) = Unknown
outcome_of (refused n place) = Refused (record { cause = cause_of n; place = place })
outcome_of skipped = Skipped

-- the box that it answers; other outcomes have none
abbrev pub no_box : Box
no_box = record { lows = []; highs = [] }

abbrev pub box_of : Model.Outcome → Box
box_of (inside b) = b
box_of (verdict b) = no_box
box_of (refused n place) = no_box
box_of skipped = no_box

-- an answer with these parts: the ends in the first places, 0 in the others
abbrev pub parts : ℕ → ℕ → Outcome → Box → Answer
parts field bytes o b = record {
  field = field;
  bytes = bytes;
  outcome = o;
  sides = length b.lows;
  low = tab 6 (at b.lows);
  high = tab 6 (at b.highs);
}

-- the answer for a field of this many bytes
unfoldable pub answer_of : Run.Answer → ℕ → Answer
answer_of a bytes = parts a.field bytes (outcome_of a.outcome) (box_of a.outcome)

-- a call that is refused takes no byte
unfoldable pub unfit_answer : ℕ → Cause → Answer
unfit_answer field c = parts field 0 (Unfit c) no_box

-- whether an outcome accepts its field
abbrev pub accepts : Outcome → Bool
accepts Inside = true
accepts Safe = true
accepts Unknown = true
accepts (Refused r) = false
accepts Skipped = false
accepts (Unfit c) = false
