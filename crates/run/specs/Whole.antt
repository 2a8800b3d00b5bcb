-- A whole input, from the beginning to its end or its first refusal.
use Rattle.std.specs.Prelude.{◌≡◌, List, [], ◌∷◌, Bool, true, false, cond, not, ◌&&◌, ◌||◌, ℕ, ◌+◌, length}
use Rattle.model.specs.Field.{skipped}
use Rattle.model.specs.Run as Model
use Rattle.model.specs.Run.{begin, after, answer, fields, run}
use Rattle.zonotope.specs.declared.Cause.TheVariants.{WorkTooShort}
use Rattle.states.specs.declared.Answer.{Answer}
use Rattle.states.specs.State.{record_of, beginning}
use Rattle.states.specs.Answer.{answer_of, unfit_answer}
use Rattle.advance.specs.Advanced.{step_worked}
use Rattle.run.specs.declared.Ran.{Ran}

-- the answer for the last field that is looked at, of a list whose first one begins at this place; a is the one before them
unfoldable pub last_answer : ℕ → Model.State → List (List ℕ) → Answer → Answer
last_answer place u [] a = a
last_answer place u (f ∷ fs) a =
    cond u.over a (last_answer (place + length f) (after u f) fs (answer_of (answer place u f) (length f)))

-- whether a step of a list was worked out
unfoldable pub any_worked : Model.State → List (List ℕ) → Bool
any_worked u [] = false
any_worked u (f ∷ fs) = step_worked u f || any_worked (after u f) fs

-- before the first field
abbrev pub no_answer : Answer
no_answer = answer_of (record { field = 0; outcome = skipped }) 0

-- what an input comes to: an input has a field at least, so `no_answer` is never the last
abbrev pub of_input : List ℕ → Ran
of_input input = record {
  accepted = (run (fields input) begin).count;
  last = last_answer 0 begin (fields input) no_answer;
  state = record_of (run (fields input) begin);
}

-- without room in the work slices nothing is looked at: 13
unfoldable pub ran_of : Bool → List ℕ → Ran
ran_of short input = cond short (record { accepted = 0; last = unfit_answer 0 WorkTooShort; state = beginning }) (of_input input)

-- whether the work slices were used
unfoldable pub run_worked : Bool → List ℕ → Bool
run_worked short input = not short && any_worked begin (fields input)

-- ---- both, by whether there is room
pub run_short : (input : List ℕ) {short : Bool} → short ≡ true
    → (record { accepted = 0; last = unfit_answer 0 WorkTooShort; state = beginning } ≡ ran_of short input) × (run_worked short input ≡ false)
unfolding ran_of run_worked
run_short input e = (rw e, rw e)

pub run-whole : (input : List ℕ) {short : Bool} → short ≡ false
    → (of_input input ≡ ran_of short input) × (any_worked begin (fields input) ≡ run_worked short input)
unfolding ran_of run_worked
run-whole input e = (rw e, rw e)
