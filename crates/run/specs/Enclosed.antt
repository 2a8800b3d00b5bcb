-- Demand 3 of the records that are returned: for every list of calls of `field`, begun with `begin()` and each given the state that the
-- last one returned, whatever bytes and slices are lent to them, every motion, after each accepted field, is a point of the set in the
-- returned record at its own values and inside the box in the returned answer, and where the answer says safe not in the unsafe region. A
-- call whose slices are too short takes no field and leaves the state and every motion as they were. The theorem is `enclosed`, in
-- proofs/Enclosed.antt; that for a whole input given to `run` is `run_enclosed`, in proofs/RunEnclosed.antt.
use Rattle.std.specs.Prelude.{◌≡◌, List, [], ◌∷◌, Bool, true, false, cond, ℕ, suc, ◌<◌, T, get_or, pos}
use Rattle.rational.specs.Rational.{ι, 0ℚ, ◌≤ℚ◌}
use Rattle.model.specs.Limits.{first_fresh}
use Rattle.model.specs.Body.{dimension, given_halfspaces}
use Rattle.model.specs.Run as Model
use Rattle.model.specs.Run.{begin, tag, body, kind_of, after, fields, first_field}
use Rattle.model.specs.Points.{Vector, Point}
use Rattle.model.specs.Motion as Motion
use Rattle.model.specs.Motion.{Picks, Allowed, move, values_after, mark_after, Unsafe}
use Rattle.zonotope.specs.Record.{view}
use Rattle.step.specs.Answer.{without_room}
use Rattle.states.specs.declared.State.{State}
use Rattle.states.specs.declared.Outcome.TheVariants.{Inside, Safe}
use Rattle.states.specs.declared.Answer.{Answer}
use Rattle.states.specs.declared.Fielded.{Fielded}
use Rattle.states.specs.State.{beginning}
use Rattle.states.specs.Answer.{accepts}
use Rattle.run.specs.Field.{fielded}
use Rattle.run.specs.Whole.{ran_of}

-- ---- the calls
-- a call of `field`: where the field stands, what is left of the input from its first byte on, and how long the work slices w and e are
pub record Call : Type 0 where
  pub place : ℕ
  pub rest : List ℕ
  pub numbers : ℕ
  pub exponents : ℕ

-- what a call returns that is given this state, as the contract of `field` has it
abbrev pub called : State → Call → Fielded
called st c = fielded (without_room c.numbers c.exponents) c.place st c.rest

-- whether a slice is too short
abbrev pub short : Call → Bool
short c = without_room c.numbers c.exponents

-- the fields that are taken, in order: a call whose slices are too short takes none
unfoldable pub fields_taken : List Call → List (List ℕ)
fields_taken [] = []
fields_taken (c ∷ cs) = cond (short c) (fields_taken cs) (first_field c.rest ∷ fields_taken cs)

-- ---- a motion
-- a motion beside the state that the last call returned; the mark is the motion's own count of the accepted bodies
pub record Moment : Type 0 where
  pub state : State
  pub mark : ℕ
  pub values : Vector
  pub position : Vector

-- begun with no set; the position is none until the start set gives one
abbrev pub begun : Picks → Moment
begun p = record { state = beginning; mark = first_fresh; values = p.values; position = λ i. 0ℚ }

-- field m, for which the call returned r: an accepted one moves the motion by its body, another leaves it
unfoldable pub follow : Picks → ℕ → Moment → List ℕ → Fielded → Moment
follow p m now f r = let k = kind_of (tag f) in let b = body f in let yes = accepts r.answer.outcome in record {
  state = r.state;
  mark = cond yes (mark_after k b now.mark) now.mark;
  values = cond yes (values_after k b p m now.mark now.values) now.values;
  position = cond yes (move k b p m now.position) now.position;
}

-- ---- the claim
-- x is inside the box of an answer, which has two ends for each of n coordinates
pub record InEnds (n : ℕ) (x : Vector) (a : Answer) : Type 0 where
  pub sides : a.sides ≡ n
  pub above : (i : ℕ) → i < n → ι (get_or a.low i (pos 0)) ≤ℚ x i
  pub below : (i : ℕ) → i < n → x i ≤ℚ ι (get_or a.high i (pos 0))

-- what holds after an accepted field f, for which the call returned r
pub record Kept (f : List ℕ) (r : Fielded) (now : Moment) : Type 0 where
  -- the motion is a point of the returned set at its own factor values
  pub in_set : Point (view r.state.set) now.values now.position
  -- it is inside the box that is answered
  pub in_box : r.answer.outcome ≡ Inside → InEnds r.state.set.dimension now.position r.answer
  -- where the answer is safe, it is not in the unsafe region
  pub not_unsafe : r.answer.outcome ≡ Safe → ¬ (Unsafe (given_halfspaces (body f)) (dimension (body f)) now.position)

-- after each accepted field of the calls, each of which is given the state that the last one returned; m is the number of the next field. A
-- call whose slices are too short changes neither the state nor the motion, and takes no number
unfoldable pub Always : Picks → ℕ → Moment → List Call → Type 0
Always p m now [] = Unit {0}
Always p m now (c ∷ cs) =
    let f = first_field c.rest in let r = called now.state c in let then = follow p m now f r in
    (T (accepts r.answer.outcome) → Kept f r then)
    × (short c ≡ true → then ≡ now)
    × Always p (cond (short c) m (suc m)) then cs

-- demand 3, for every list of calls, whatever bytes, places and slices they have, and every motion inside the limits of the fields taken
abbrev pub Enclosed : Type 0
Enclosed = (calls : List Call) (p : Picks) → Allowed p (fields_taken calls) → Always p 0 (begun p) calls

-- ---- a whole input given to `run`
-- the motion after all fields of a list
unfoldable pub follow_all : Picks → ℕ → Motion.Moment → List (List ℕ) → Motion.Moment
follow_all p m now [] = now
follow_all p m now (f ∷ fs) = follow_all p (suc m) (Motion.follow p m now f) fs

-- the last field that is looked at, of a list after f
unfoldable pub last_field : Model.State → List ℕ → List (List ℕ) → List ℕ
last_field u f [] = f
last_field u f (g ∷ gs) = cond u.over f (last_field (after u g) g gs)

-- what holds of the state, the last answer and the last field, where the motion has come this far
pub record KeptAtEnd (f : List ℕ) (st : State) (last : Answer) (now : Motion.Moment) : Type 0 where
  pub in_set : 0 < st.count → Point (view st.set) now.values now.position
  pub in_box : last.outcome ≡ Inside → InEnds st.set.dimension now.position last
  pub not_unsafe : last.outcome ≡ Safe → ¬ (Unsafe (given_halfspaces (body f)) (dimension (body f)) now.position)

-- demand 3 of the last answer and state, for every input and every motion inside its limits
abbrev pub RunEnclosed : Type 0
RunEnclosed = (input : List ℕ) (p : Picks) → Allowed p (fields input)
    → let r = ran_of false input in
    KeptAtEnd (last_field begin [] (fields input)) r.state r.last (follow_all p 0 (Motion.beginning p) (fields input))
