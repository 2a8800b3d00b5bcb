-- What a kind of field is: what it asks of its body, in the order of the refusals, and what it gives; and where it takes a motion.
use Rattle.std.specs.Prelude.{List, [], ◌∷◌, Bool, true, false, not, cond, ◌||◌, ℕ, ◌+◌, ◌/◌, ltb, eqb, length, get_or, ℤ, pos, nat_abs}
use Rattle.std.specs.Int.Signed.{lt_z}
use Rattle.whole.specs.Round.{scale}
use Rattle.whole.specs.Tab.{tab, any, all}
use Rattle.rational.specs.Rational.{ℚ}
use Rattle.model.specs.Limits.{max_dimension, max_factors, max_terms, max_generators, max_entry, max_constant}
use Rattle.model.specs.Limits.{file_identifiers, standard_weights}
use Rattle.model.specs.Set.{Zonotope, at}
use Rattle.model.specs.Finish.{folds}
use Rattle.model.specs.Valid.{bad_range, bad_order, is_too_wide}
use Rattle.model.specs.Step as Step
use Rattle.model.specs.Ranged as Ranged
use Rattle.model.specs.Operations.{union, Box, box}
use Rattle.model.specs.Body.{dimension, factors, term_count, generator_count, set_length, radius_words, given_set, step_rows, step_columns}
use Rattle.model.specs.Body.{linear_width_words, quadratic_width_words}
use Rattle.model.specs.Points.{Vector}
use Rattle.model.specs.Moving.{Picks}

-- a box, a verdict (safe or unknown), or a refusal with its number and the position of the field's first byte;
-- a field after a refusal is skipped
pub data Outcome : Type 0 where
  inside : Box → Outcome
  verdict : Bool → Outcome
  refused : ℕ → ℕ → Outcome
  skipped : Outcome

-- ---- refusals
-- a cause, with its number
infix 3 ◌if◌
pub record Cause : Type 0 where
  pub number : ℕ
  pub holds : Bool

abbrev pub ◌if◌ : ℕ → Bool → Cause
n if b = record { number = n; holds = b }

-- the order of a body's causes (document 01, with document 02's 14 after 6); a kind has some of them
abbrev pub body_order : List ℕ
body_order = 3 ∷ 4 ∷ 3 ∷ 5 ∷ 6 ∷ 14 ∷ 7 ∷ 8 ∷ 9 ∷ 10 ∷ []

-- whether the first list is the second with some left out
unfoldable pub within : List ℕ → List ℕ → Bool
within [] l = true
within (a ∷ k) [] = false
within (a ∷ k) (c ∷ l) = cond (eqb a c) (within k l) (within (a ∷ k) l)

-- what a field means where it is given a set and the next fresh identifier
pub record Meaning : Type 0 where
  -- why it is refused, in the order in which it is asked, where the body has this many bytes; after these 10, the result too wide
  pub causes : ℕ → List Cause
  pub result : Zonotope
  -- what folding added to each coordinate's radius, where the result was finished
  pub folds : List ℕ
  -- the next fresh identifier afterwards
  pub next : ℕ
  -- what is answered where no cause holds
  pub outcome : Outcome

-- ---- tests that kinds share
abbrev pub bad_dimension : ℕ → Bool
bad_dimension n = eqb n 0 || ltb max_dimension n

abbrev pub beyond : ℕ → ℤ → Bool
beyond most z = ltb most (nat_abs z)

abbrev pub negative : ℤ → Bool
negative z = lt_z z (pos 0)

abbrev pub differs : ℕ → ℕ → Bool
differs m n = not (eqb m n)

-- radii are all zero
abbrev pub all_zero : List ℕ → Bool
all_zero radii = all (λ r. eqb r 0) radii

-- an entry of a step is out of range
abbrev pub bad_step_range : Step.Step → Bool
bad_step_range p = any (beyond max_constant) p.constant || any (beyond max_entry) p.linear || any (beyond max_entry) p.quadratic

-- an entry of a list and its half-width are too large together
unfoldable pub beyond_with : List ℤ → List ℕ → Bool
beyond_with entries widths = any (λ k. ltb max_entry (nat_abs (at entries k) + get_or widths k 0)) (tab (length entries) (λ k. k))

-- an entry of A or Q and its half-width are
abbrev pub bad_width_range : Step.Step → Ranged.Widths → Bool
bad_width_range p d = beyond_with p.linear d.linear || beyond_with p.quadratic d.quadratic

-- a half-width is negative
abbrev pub negative_width : List ℕ → Bool
negative_width b = any negative (linear_width_words b) || any negative (quadratic_width_words b)

-- a field whose body is a set, by what the kind adds
abbrev pub of_set : List ℕ → Bool → Bool → Zonotope → List ℕ → ℕ → Meaning
of_set b wrong_dimension many_factors result folds next = record {
  causes = λ bytes.
      (3 if ltb bytes 4)
      ∷ (4 if bad_dimension (dimension b) || ltb max_factors (factors b) || ltb max_terms (term_count b) || ltb max_generators
      (generator_count b))
      ∷ (3 if differs bytes (set_length b))
      ∷ (5 if wrong_dimension)
      ∷ (6 if bad_range file_identifiers (given_set b) || any negative (radius_words b))
      ∷ (7 if bad_order (given_set b))
      ∷ (8 if is_too_wide (given_set b))
      ∷ (9 if many_factors)
      ∷ [];
  result = result;
  folds = folds;
  next = next;
  outcome = inside (box result);
}

-- a field whose body begins with a step, by what the kind adds
abbrev pub of_step_body : List ℕ → ℕ → Bool → Zonotope → ℕ → Zonotope → List ℕ → Meaning
of_step_body b size beyond_range s next result folds = record {
  causes = λ bytes.
      (3 if ltb bytes 2)
      ∷ (4 if bad_dimension (step_rows b) || bad_dimension (step_columns b))
      ∷ (3 if differs bytes size)
      ∷ (5 if differs (step_columns b) s.dimension)
      ∷ (6 if beyond_range)
      ∷ [];
  result = result;
  folds = folds;
  next = next;
  outcome = inside (box result);
}

-- whether s and a summand have too many factors together
abbrev pub too_many : Zonotope → Zonotope → Bool
too_many s u = ltb max_factors (length (union s.identifiers u.identifiers))

-- whether they and a blending factor are too many
abbrev pub too_many_blended : Zonotope → Zonotope → Bool
too_many_blended s u = ltb max_factors (length (union s.identifiers u.identifiers) + 1)

-- what folding adds to the radii of a result that is finished to the limits of a set
abbrev pub folds_of : Zonotope → List ℕ
folds_of unfinished = folds standard_weights max_terms max_generators unfinished

-- S in whole units, and half of a count, each rounded up
abbrev pub units_of : ℕ → ℕ
units_of S = (S + 16777215) / scale

abbrev pub half_of : ℕ → ℕ
half_of count = (count + 1) / 2

-- ---- a kind; `b` is a field's body, `m` its number
pub record Described : Type 0 where
  -- ---- what the field does
  -- its tag; 0 where the tag is unknown
  pub tag : ℕ
  -- what it means where it is given a next fresh identifier and a set
  pub meaning : List ℕ → ℕ → Zonotope → Meaning
  -- whether it makes the parts of the radius anew
  pub anew : Bool
  -- whether it is worked out in the lent work slices
  pub works : Bool
  -- the radius of coordinate i after it, but for what folding adds: it was given the set s, and the radii were ρ before
  pub ruled : List ℕ → ℕ → Zonotope → (ℕ → ℕ) → ℕ → ℕ
  -- ---- where a motion goes
  -- the largest offset that it allows in coordinate i; a field that uses none allows 0
  pub offset_limit : List ℕ → ℕ → ℕ
  -- where it takes a motion
  pub move : List ℕ → Picks → ℕ → Vector → Vector
  -- how many coordinates a position has after it, where it had n
  pub coordinates : List ℕ → ℕ → ℕ
  -- the values of the identifiers that it makes fresh, in order, by the picks
  pub fresh : List ℕ → List (Picks → ℕ → ℚ)
