-- Fields whose body is a set: their causes in parts, in the order in which they are asked.
use Rattle.std.specs.Prelude.{Bool, ◌||◌, ℕ, ltb, length}
use mathlib.Core.List.{List, [], ◌∷◌, ◌++◌}
use Rattle.whole.specs.Tab.{any}
use Rattle.model.specs.Limits.{file_identifiers}
use Rattle.model.specs.Valid.{bad_range, bad_order, is_too_wide}
use Rattle.model.specs.Body.{dimension, set_length, radius_words, given_set}
use Rattle.model.specs.Field.{differs, negative}
use Rattle.model.specs.Run.{Cause, ◌if◌}
use Rattle.bodies.specs.Set.{set_counts_out}
use Rattle.fields.specs.Layout.{layout}

module _ (b : List ℕ) where
  -- the body is as long as its counts say: 3, 4, 3
  abbrev pub of_layout : List Cause
  of_layout = layout 4 (set_counts_out b) (set_length b) (length b)

  -- 6: an identifier, exponent or radius is out of range
  abbrev pub beyond_range : Bool
  beyond_range = bad_range file_identifiers (given_set b) || any negative (radius_words b)

  -- the set itself: 6, 7, 8
  abbrev pub of_contents : List Cause
  of_contents = (6 if beyond_range) ∷ (7 if bad_order (given_set b)) ∷ (8 if is_too_wide (given_set b)) ∷ []

-- the set of a sum in n coordinates: 5 stands between the two
abbrev pub of_summand : ℕ → List ℕ → List Cause
of_summand n b = of_layout b ++ ((5 if differs (dimension b) n) ∷ of_contents b)

-- what is asked of a file's identifiers and of the radii alone
abbrev pub beyond_file : List ℕ → Bool
beyond_file b = any (ltb file_identifiers) (given_set b).identifiers || any negative (radius_words b)
