-- The promise: what an output says is true of every motion that the input allows. The theorem is `promise`, in proofs/Promise.antt.
use Rattle.std.specs.Prelude.{◌≡◌, List, [], ◌∷◌, ◌++◌, true, cond, ℕ, zero, suc, ◌+◌, ◌-◌, ◌*◌, ◌<◌, length, get_or, take, drop, pos}
use Rattle.std.proofs.Math.Option.{some}
use Rattle.rational.specs.Rational.{ι, 1ℚ, ◌≤ℚ◌}
use Rattle.rational.specs.Bounds.{Within}
use Rattle.model.specs.Set.{at}
use Rattle.model.specs.Body.{given_step, given_widths, given_halfspaces}
use Rattle.model.specs.Field.{Kind, check, ranged_step, describe}
use Rattle.model.specs.Run.{State, begin, tag, body, kind_of, refusal, accepted, after, run, fields}
use Rattle.model.specs.Points.{Vector, InRange}
use Rattle.model.specs.Motion.{Picks, offset_limit, InWidths, Allowed, Moment, beginning, follow, Unsafe}
use Rattle.model.specs.Reading.{Line, lines, line_at, line_ends}

-- ---- of an input
-- how many fields are accepted before one is refused
unfoldable pub accepted_from : State → List (List ℕ) → ℕ
accepted_from st [] = 0
accepted_from st (f ∷ fs) = cond (accepted st f) (suc (accepted_from (after st f) fs)) 0

-- of an input
abbrev pub accepted_fields : List ℕ → ℕ
accepted_fields input = accepted_from begin (fields input)

-- field m, from 0 on
abbrev pub field_at : List ℕ → ℕ → List ℕ
field_at input m = get_or (fields input) m []

-- the place of its first byte
unfoldable pub place_of : List (List ℕ) → ℕ → ℕ
place_of fs zero = 0
place_of [] (suc m) = 0
place_of (f ∷ fs) (suc m) = length f + place_of fs m

-- how many coordinates a position has after an accepted field, where it had n
unfoldable pub coordinates_after : Kind → List ℕ → ℕ → ℕ
coordinates_after k b n = (describe k).coordinates b n

-- after the fields up to m, which are accepted
unfoldable pub coordinates_from : ℕ → List (List ℕ) → ℕ → ℕ
coordinates_from n [] m = n
coordinates_from n (f ∷ fs) zero = coordinates_after (kind_of (tag f)) (body f) n
coordinates_from n (f ∷ fs) (suc m) = coordinates_from (coordinates_after (kind_of (tag f)) (body f) n) fs m

-- of an input
abbrev pub coordinates : List ℕ → ℕ → ℕ
coordinates input m = coordinates_from 0 (fields input) m

-- ---- of a motion: where it is after field k and those up to m after it
unfoldable pub moment_from : Picks → ℕ → Moment → List (List ℕ) → ℕ → Moment
moment_from p k now [] m = now
moment_from p k now (f ∷ fs) zero = follow p k now f
moment_from p k now (f ∷ fs) (suc m) = moment_from p (suc k) (follow p k now f) fs m

-- after the fields up to m
abbrev pub position : Picks → List ℕ → ℕ → Vector
position p input m = (moment_from p 0 (beginning p) (fields input) m).position

-- ---- of a line
-- what a line is and says: another kind of line joins here
pub record Saying : Type 1 where
  -- it is the line of the accepted field f, number m, after which a position has n coordinates
  pub its_own : ℕ → List ℕ → ℕ → Type 0
  -- what it says of that field is true of the position x
  pub is_true : List ℕ → ℕ → Vector → Type 0

-- a line of no field
abbrev pub of_no_field : Saying
of_no_field = record { its_own = λ m f n. ⊥; is_true = λ f n x. ⊥ }

-- a box has two ends for each coordinate, between which the position is; a verdict is a check's, and where it says safe the position is
-- not in the unsafe region
unfoldable pub saying : Line → Saying
saying (Line.box field t ends) = record {
  its_own = λ m f n. (field ≡ m) × (t ≡ tag f) × (length ends ≡ 2 * n) × ¬ (kind_of (tag f) ≡ check);
  is_true = λ f n x. (i : ℕ) → i < n → (ι (at ends (2 * i)) ≤ℚ x i) × (x i ≤ℚ ι (at ends (2 * i + 1)));
}
saying (Line.verdict field t safe) = record {
  its_own = λ m f n. (field ≡ m) × (t ≡ tag f) × (kind_of (tag f) ≡ check);
  is_true = λ f n x. safe ≡ true → ¬ (Unsafe (given_halfspaces (body f)) n x);
}
saying (Line.refusal field number place) = of_no_field
saying (Line.folded totals) = of_no_field
saying (Line.end field) = of_no_field
saying Line.strange = of_no_field

-- the line l is that of the accepted field f, number m
abbrev pub LineOf : ℕ → List ℕ → ℕ → Line → Type 0
LineOf m f n l = (saying l).its_own m f n

-- what it says of f is true of the position x
abbrev pub TrueOf : List ℕ → ℕ → Vector → Line → Type 0
TrueOf f n x l = (saying l).is_true f n x

-- ---- the claim
-- the last lines, after those of k accepted fields: where all are, the totals of what folding added and the last field's number; else the
-- refusal of field k, with its number and the place of its first byte
pub record Closing (fs : List (List ℕ)) (k : ℕ) (rest : List Line) : Type 0 where
  pub accepted : k ≡ length fs → rest ≡ Line.folded (run fs begin).folded ∷ Line.end (k - 1) ∷ []
  pub refused : k < length fs →
      (n : ℕ) × (refusal (run (take k fs) begin) (get_or fs k []) ≡ some n) × (rest ≡ Line.refusal k n (place_of fs k) ∷ [])

-- the line of accepted field m keeps the promise
pub record Keeps (input : List ℕ) (m : ℕ) (l : Line) : Type 0 where
  -- it is that field's line
  pub its_own : LineOf m (field_at input m) (coordinates input m) l
  -- what it says is true of every motion that picks inside its limits
  pub true_of_motions : (p : Picks) → Allowed p (fields input) → TrueOf (field_at input m) (coordinates input m) (position p input m) l

-- an output does: a line for each accepted field, in order, and the lines that close it
pub record Promised (input output : List ℕ) : Type 0 where
  pub in_order : (m : ℕ) → m < accepted_fields input → Keeps input m (line_at output m)
  pub closing : Closing (fields input) (accepted_fields input) (drop (accepted_fields input) (lines output))

-- how an output begins does: it can be gone on with, and each of its lines that is whole keeps the promise
pub record Begun (input output : List ℕ) : Type 0 where
  pub later : List ℕ
  pub whole : Promised input (output ++ later)
  pub in_order : (m : ℕ) → m < line_ends output → m < accepted_fields input → Keeps input m (line_at output m)

-- ---- motions that are asked for their limits at the first n fields alone
pub record AllowedBefore (n : ℕ) (p : Picks) (fs : List (List ℕ)) : Type 0 where
  pub values : InRange p.values
  pub own : (m : ℕ) → m < n → InRange (p.own m)
  pub numbers : (m j : ℕ) → m < n → Within (p.numbers m j) 1ℚ
  pub blend : (m : ℕ) → m < n → Within (p.blend m) 1ℚ
  pub offsets : (m i : ℕ) → m < n → let f = get_or fs m [] in Within (p.offsets m i) (ι (pos (offset_limit (kind_of (tag f)) (body f) i)))
  pub coefficients : (m : ℕ) → m < n → let f = get_or fs m [] in
      kind_of (tag f) ≡ ranged_step → InWidths (given_step (body f)) (given_widths (body f)) (p.linear m) (p.quadratic m)
