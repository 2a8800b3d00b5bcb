-- Motions, and what is claimed of them: document 01's 'Motions' and demand 3. The theorem is `enclosed`, in proofs/Enclosed.antt.
use Rattle.std.specs.Prelude.{◌≡◌, List, [], ◌∷◌, map, true, cond, ℕ, suc, ◌+◌, ◌<◌, T, ltb, eqb, length, get_or, pos}
use Rattle.rational.specs.Rational.{ℚ, ◌*ℚ◌, ι, 0ℚ, 1ℚ, ◌≤ℚ◌}
use Rattle.rational.specs.Bounds.{Within}
use Rattle.rational.specs.Sum.{sum, All}
use Rattle.model.specs.Set.{at}
use Rattle.model.specs.Operations.{Box, Halfspace}
use Rattle.model.specs.Limits.{first_fresh}
use Rattle.model.specs.Body.{dimension, given_step, given_widths, given_halfspaces}
use Rattle.model.specs.Field.{Kind, ranged_step, describe}
use Rattle.model.specs.Field.{inside, verdict}
use Rattle.model.specs.Run.{State, begin, current, tag, body, kind_of, accepted, after, outcome}
use Rattle.model.specs.Points.{Vector, Point, InRange}
pub use Rattle.model.specs.Moving.{Picks, InWidths, body_point, places, image_by, between}
unfoldable pub use Rattle.model.specs.Moving.{image}

-- the largest offset that a field allows in coordinate i; a field that uses none allows 0
unfoldable pub offset_limit : Kind → List ℕ → ℕ → ℕ
offset_limit k b i = (describe k).offset_limit b i

-- every pick is inside its limit
pub record Allowed (p : Picks) (fields : List (List ℕ)) : Type 0 where
  pub values : InRange p.values
  pub own : (m : ℕ) → InRange (p.own m)
  pub numbers : (m j : ℕ) → Within (p.numbers m j) 1ℚ
  pub blend : (m : ℕ) → Within (p.blend m) 1ℚ
  pub offsets : (m i : ℕ) → let f = get_or fields m [] in Within (p.offsets m i) (ι (pos (offset_limit (kind_of (tag f)) (body f) i)))
  pub coefficients : (m : ℕ) → let f = get_or fields m [] in
      kind_of (tag f) ≡ ranged_step → InWidths (given_step (body f)) (given_widths (body f)) (p.linear m) (p.quadratic m)

-- ---- where a motion goes, in exact arithmetic
-- at an accepted field
unfoldable pub move : Kind → List ℕ → Picks → ℕ → Vector → Vector
move k b p m x i = (describe k).move b p m x i

-- values, where identifiers from `next` on have the value c
abbrev pub with_fresh : ℕ → ℚ → Vector → Vector
with_fresh next c α k = cond (ltb k next) (α k) c

-- values, where the identifiers from `next` on have these, one after the other
unfoldable pub with_values : List ℚ → ℕ → Vector → Vector
with_values [] next α k = α k
with_values (c ∷ cs) next α k = cond (eqb k next) c (with_values cs (suc next) α k)

-- those of the identifiers that a field makes fresh
abbrev pub fresh_values : Kind → List ℕ → Picks → ℕ → List ℚ
fresh_values k b p m = map (λ c. c p m) ((describe k).fresh b)

-- the values of identifiers after a field: those that it makes fresh have theirs from the picks
unfoldable pub values_after : Kind → List ℕ → Picks → ℕ → ℕ → Vector → Vector
values_after k b p m next α j = with_values (fresh_values k b p m) next α j

-- the mark that the accepted bodies count
unfoldable pub mark_after : Kind → List ℕ → ℕ → ℕ
mark_after k b mark = mark + length ((describe k).fresh b)

-- ---- a run and a motion beside it; the mark is the motion's own count, not the run's
pub record Moment : Type 0 where
  pub state : State
  pub mark : ℕ
  pub values : Vector
  pub position : Vector

-- begun with no set; the position is none until the start set gives one
abbrev pub beginning : Picks → Moment
beginning p = record { state = begin; mark = first_fresh; values = p.values; position = λ i. 0ℚ }

-- field m: an accepted one moves the motion, another leaves it
unfoldable pub follow : Picks → ℕ → Moment → List ℕ → Moment
follow p m now f = let k = kind_of (tag f) in let b = body f in record {
  state = after now.state f;
  mark = cond (accepted now.state f) (mark_after k b now.mark) now.mark;
  values = cond (accepted now.state f) (values_after k b p m now.mark now.values) now.values;
  position = cond (accepted now.state f) (move k b p m now.position) now.position;
}

-- ---- the claim
-- x, in n coordinates, is in the box, which has two ends for each of them
pub record InBox (n : ℕ) (x : Vector) (b : Box) : Type 0 where
  pub sides : (length b.lows ≡ n) × (length b.highs ≡ n)
  pub above : (i : ℕ) → i < n → ι (at b.lows i) ≤ℚ x i
  pub below : (i : ℕ) → i < n → x i ≤ℚ ι (at b.highs i)

-- x is in the unsafe region: normal·x ≤ bound for each halfspace
abbrev pub Unsafe : List Halfspace → ℕ → Vector → Type 0
Unsafe hs n x = All (λ h. sum (λ j. ι (at h.normal j) *ℚ x j) (places n) ≤ℚ ι h.bound) hs

-- what holds after an accepted field f, which came to the state st
pub record Kept (st : State) (f : List ℕ) (now : Moment) : Type 0 where
  -- the motion is a point of the current set at its own factor values
  pub in_set : Point (current now.state) now.values now.position
  -- it is inside the box that the field answers
  pub in_box : (place : ℕ) (b : Box) → outcome place st f ≡ inside b → InBox (current now.state).dimension now.position b
  -- where a check says safe, it is not in the unsafe region
  pub not_unsafe : (place : ℕ) → outcome place st f ≡ verdict true →
      ¬ (Unsafe (given_halfspaces (body f)) (dimension (body f)) now.position)

-- after each accepted field of the list
unfoldable pub Always : Picks → ℕ → Moment → List (List ℕ) → Type 0
Always p m now [] = Unit {0}
Always p m now (f ∷ fs) = (T (accepted now.state f) → Kept now.state f (follow p m now f)) × Always p (suc m) (follow p m now f) fs

-- demand 3: for every list of fields, whatever bytes they hold, begun with no set, and every motion that picks inside its limits
abbrev pub Enclosed : Type 0
Enclosed = (fields : List (List ℕ)) (p : Picks) → Allowed p fields → Always p 0 (beginning p) fields
