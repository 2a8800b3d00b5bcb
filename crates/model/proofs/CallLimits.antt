-- Calls on records, computed at their limits: identifiers, the next identifier, work slices that are too short, lengths of slices, and the
-- last number of a slice.
use mathlib.Core.Path.{◌≡◌, refl}
use mathlib.Core.List.{List, [], ◌∷◌, ◌++◌}
use mathlib.Core.Bool.{true, false, cond}
use mathlib.Core.Option.{none, some}
use Prim.Native.Nat.{ℕ, ◌+◌}
use lib.Dec.{eqb}
use lib.ListN.{replicate}
use lib.IntN.{ℤ, pos}
use Rattle.whole.specs.Round.{round, exact, inexact}
use Rattle.whole.specs.Sum.{sum_by, upto_by}
use Rattle.whole.specs.Tab.{tab, any, all}
use Rattle.model.specs.Set.{Zonotope, term_sizes, generator_sizes, span, longer, radius_of, given_only}
use Rattle.model.specs.Valid.{order, rises, bad_counts, bad_range, bad_order, is_too_wide}
use Rattle.model.specs.Finish.{insert, collect_into, those, fold_all, fold_times, keep_at, collect_terms, drop_zero_terms}
use Rattle.model.specs.Finish.{drop_zero_generators, fold_high, fold_terms, fold_generators, drop_unused, finish}
use Rattle.model.specs.Step.{Step, dot, bilinear, raw_centre, raw_linear, raw_square, raw_pair, pairs, remainder, raw, inexact_at}
use Rattle.model.specs.Step.{carried_at, rounded_at, rounded, step}
use Rattle.model.specs.Operations.{insert_identifier, union, align, joined, tied_sum, renumbered, independent_sum, disturb}
use Rattle.model.specs.Ranged.{Widths, gain, gaining_step, ranged_step}
use Rattle.model.specs.Hull.{opposite, blended, hull}
use Rattle.model.specs.Field.{beyond_with}
use Rattle.model.specs.Run.{first_of}
use Rattle.model.specs.Library.{Given, examine, tied_refusal, independent_refusal, hull_refusal, disturb_refusal, check_refusal}
use Rattle.model.specs.Library.{step_refusal, ranged_refusal}

-- ---- identifiers
-- a record whose unused places are 0
abbrev whole : Zonotope → Given
whole s = record { set = s; spare = false }

-- the sum of n factors from identifier k on, in one coordinate
abbrev factors : ℕ → ℕ → Given
factors k n = whole (record {
  dimension = 1;
  identifiers = tab n (λ j. k + j);
  centre = pos 0 ∷ [];
  terms = tab n (λ t. record { exponents = tab n (λ j. cond (eqb (j + t + 1) n) 1 0); coefficients = pos 1 ∷ [] });
  generators = [];
  radii = given_only 1 (0 ∷ []);
})

-- a record's identifiers go up to 2,000,000,000
pub identifier_limits :
    (examine (factors 2000000000 1) ≡ none)
    × (examine (factors 2000000001 1) ≡ some 6)
    × (examine (factors 0 1) ≡ some 6)
    × (examine (record { set = (factors 1 1).set; spare = true }) ≡ some 7)
    × (tied_refusal (factors 1 1) (factors 2000000000 1) ≡ none)
    × (tied_refusal (factors 1 1) (factors 2000000001 1) ≡ some 6)
unfolding examine tied_refusal first_of bad_counts bad_range bad_order is_too_wide span term_sizes generator_sizes radius_of rises order sum_by tab any
    all tied_sum joined union insert_identifier align finish drop_unused fold_generators fold_terms fold_high drop_zero_generators drop_zero_terms
    collect_terms insert collect_into those fold_all fold_times keep_at longer
identifier_limits = (refl, refl, refl, refl, refl, refl)

-- 11: the next identifier is within 65,536 .. 1,999,999,988 and above the first set's, for a hull above the second's too; 9 comes after it
pub next_limits :
    (independent_refusal 1999999988 (factors 1999999987 1) (factors 1 1) ≡ none)
    × (independent_refusal 1999999989 (factors 1999999987 1) (factors 1 1) ≡ some 11)
    × (independent_refusal 1999999988 (factors 1999999988 1) (factors 1 1) ≡ some 11)
    × (independent_refusal 65536 (factors 1 1) (factors 70000 1) ≡ none)
    × (independent_refusal 65535 (factors 1 1) (factors 1 1) ≡ some 11)
    × (independent_refusal 65536 (factors 1 1) (factors 1 12) ≡ some 9)
    × (independent_refusal 65535 (factors 1 1) (factors 1 12) ≡ some 11)
    × (hull_refusal 1999999988 (factors 1 1) (factors 1999999987 1) ≡ none)
    × (hull_refusal 1999999989 (factors 1 1) (factors 1999999987 1) ≡ some 11)
    × (hull_refusal 65536 (factors 1 1) (factors 65536 1) ≡ some 11)
    × (hull_refusal 65536 (factors 1 1) (factors 1 12) ≡ some 9)
    × (hull_refusal 65535 (factors 1 1) (factors 1 12) ≡ some 11)
unfolding independent_refusal hull_refusal first_of bad_counts bad_range bad_order is_too_wide span term_sizes generator_sizes radius_of rises order
    sum_by upto_by tab any all independent_sum tied_sum renumbered joined union insert_identifier align hull blended opposite rounded
    inexact_at carried_at rounded_at round exact inexact finish drop_unused fold_generators fold_terms fold_high drop_zero_generators
    drop_zero_terms collect_terms insert collect_into those fold_all fold_times keep_at longer
next_limits = (refl, refl, refl, refl, refl, refl, refl, refl, refl, refl, refl, refl)

-- ---- work slices
-- a record of no coordinates, and a step of none
abbrev nothing : Given
nothing = whole (record {
  dimension = 0;
  identifiers = [];
  centre = [];
  terms = [];
  generators = [];
  radii = given_only 0 [];
})

abbrev nowhere : Step
nowhere = record { rows = 0; columns = 0; constant = []; linear = []; quadratic = [] }

-- 13 comes before everything
pub room_first :
    (step_refusal true nowhere nothing ≡ some 13)
    × (step_refusal false nowhere nothing ≡ some 4)
    × (ranged_refusal true nowhere (record { linear = []; quadratic = [] }) nothing ≡ some 13)
    × (ranged_refusal false nowhere (record { linear = []; quadratic = [] }) nothing ≡ some 4)
unfolding step_refusal ranged_refusal first_of bad_counts
room_first = (refl, refl, refl, refl)

-- ---- slices
-- the point 0 in two coordinates
abbrev plane : Given
plane = whole (record {
  dimension = 2;
  identifiers = [];
  centre = pos 0 ∷ pos 0 ∷ [];
  terms = [];
  generators = [];
  radii = given_only 2 (0 ∷ 0 ∷ []);
})

-- so many zeros, and one other number after zeros
abbrev zeros : ℕ → List ℤ
zeros n = replicate n (pos 0)

abbrev last : ℕ → ℕ → List ℤ
last n z = zeros n ++ (pos z ∷ [])

-- a step from two coordinates to three with zeros, so many for c, A and Q
abbrev still : ℕ → ℕ → ℕ → Step
still c a q = record { rows = 3; columns = 2; constant = zeros c; linear = zeros a; quadratic = zeros q }

-- so many half-widths of 0
abbrev exactly : ℕ → ℕ → Widths
exactly a q = record { linear = replicate a 0; quadratic = replicate q 0 }

-- 3 for each slice of another length; 6 by the last number of a slice
pub slices :
    (check_refusal 2 3 (zeros 6) (zeros 3) plane ≡ none)
    × (check_refusal 2 3 (zeros 5) (zeros 3) plane ≡ some 3)
    × (check_refusal 2 3 (zeros 6) (zeros 2) plane ≡ some 3)
    × (check_refusal 2 3 (last 5 32769) (zeros 3) plane ≡ some 6)
    × (check_refusal 2 3 (zeros 6) (last 2 1099511627777) plane ≡ some 6)
    × (disturb_refusal 2 (1 ∷ 1048576 ∷ []) plane ≡ none)
    × (disturb_refusal 2 (1 ∷ 1048577 ∷ []) plane ≡ some 6)
    × (step_refusal false (still 3 6 12) plane ≡ none)
    × (step_refusal false (still 2 6 12) plane ≡ some 3)
    × (step_refusal false (still 3 4 12) plane ≡ some 3)
    × (step_refusal false (still 3 6 18) plane ≡ some 3)
    × (ranged_refusal false (still 3 6 12) (exactly 6 12) plane ≡ none)
    × (ranged_refusal false (still 3 6 12) (exactly 9 12) plane ≡ some 3)
    × (ranged_refusal false (still 3 6 12) (exactly 6 8) plane ≡ some 3)
unfolding check_refusal disturb_refusal step_refusal ranged_refusal first_of bad_counts bad_range bad_order is_too_wide span term_sizes generator_sizes
    radius_of rises sum_by upto_by tab any all beyond_with disturb step ranged_step gaining_step gain rounded raw raw_centre raw_linear raw_square
    raw_pair pairs remainder dot bilinear inexact_at carried_at rounded_at round exact inexact finish drop_unused fold_generators fold_terms
    fold_high drop_zero_generators drop_zero_terms collect_terms insert collect_into those fold_all fold_times keep_at longer
slices = (refl, refl, refl, refl, refl, refl, refl, refl, refl, refl, refl, refl, refl, refl)
