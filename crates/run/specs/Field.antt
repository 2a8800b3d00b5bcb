-- One field: the answer and the state that it leaves, whatever state is given.
use Rattle.std.specs.Prelude.{List, Bool, false, ℕ}
use Rattle.std.proofs.Math.Option.{Option, none, some}
use Rattle.model.specs.Run.{first_field}
use Rattle.zonotope.specs.Answer.{cause_of}
use Rattle.states.specs.declared.State.{State}
use Rattle.states.specs.declared.Fielded.{Fielded}
use Rattle.states.specs.State.{viewed}
use Rattle.states.specs.Answer.{unfit_answer}
use Rattle.states.specs.Taken.{taken}
use Rattle.advance.specs.Advanced.{step_worked}
use Rattle.run.specs.Unfit.{unfit}

-- what a call returns: what it takes, or where it is refused with the cause of a number, the state as it came
abbrev pub returned : Option ℕ → State → Fielded → Fielded
returned none st r = r
returned (some n) st r = record { answer = unfit_answer st.count (cause_of n); state = st }

-- the first field of what is left of an input
unfoldable pub fielded : Bool → ℕ → State → List ℕ → Fielded
fielded short place st rest = returned (unfit short st) st (taken place st (first_field rest))

-- whether the work slices were used: a step was worked out
unfoldable pub field_worked : Bool → State → List ℕ → Bool
field_worked short st rest = elim (unfit short st) [ none ↦ step_worked (viewed st) (first_field rest) | some n ↦ false ]
