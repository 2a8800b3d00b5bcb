-- Runs with ranged steps, computed from their bytes: what half-widths add, that half-widths of 0 add nothing, and each number that refuses
-- a ranged step.
use mathlib.Core.Path.{◌≡◌, refl}
use mathlib.Core.List.{List, [], ◌∷◌, ◌++◌}
use mathlib.Core.Bool.{false}
use mathlib.Core.Option.{none, some}
use Prim.Native.Nat.{ℕ}
use lib.IntN.{ℤ, pos, negsuc}
use Rattle.whole.specs.Half.{half, half_size}
use Rattle.whole.specs.Round.{round, exact, inexact}
use Rattle.whole.specs.Sum.{sum_by, upto_by}
use Rattle.whole.specs.Tab.{tab, any, all}
use Rattle.rational.specs.Power.{even}
use Rattle.model.specs.Limits.{first_fresh}
use Rattle.model.specs.Set.{term_sizes, generator_sizes, span, longer, radius_of, blank, given_only}
use Rattle.model.specs.Valid.{order, rises, bad_range, bad_order, is_too_wide}
use Rattle.model.specs.Finish.{insert, collect_into, those, shift, growth, fold_vector, fold_all, size, smallest, fold_smallest, folds}
use Rattle.model.specs.Finish.{fold_times, keep_at, collect_terms, drop_zero_terms, drop_zero_generators, fold_high, fold_terms}
use Rattle.model.specs.Finish.{fold_generators, drop_unused, finish}
use Rattle.model.specs.Step.{dot, bilinear, raw_centre, raw_linear, raw_square, raw_pair, pairs, remainder, raw, inexact_at}
use Rattle.model.specs.Step.{carried_at, rounded_at, rounded, step}
use Rattle.model.specs.Ranged.{gain, gaining_step}
use Rattle.model.specs.Ranged as Ranged
use Rattle.model.specs.Bytes.{number, word}
use Rattle.model.specs.Body.{given_set, given_step, given_widths}
use Rattle.model.specs.Field.{meaning, beyond_with}
use Rattle.model.specs.Run.{State, begin, kind_of, first_of, misplaced, cut, causes, refusal, after, fields, fields_within, run}
use Rattle.model.specs.Run.{with_folds}
use Rattle.model.specs.Precision.{SameField}
use Rattle.model.proofs.Written.{bytes, words, field}
use Rattle.model.proofs.Ranged.{zero-widths-field}

-- ---- two coordinates
-- two numbers
abbrev two : {A : Type 0} → A → A → List A
two a b = a ∷ b ∷ []

-- centre (1000, -500), term (40, -20)·α with α 1, generator (6, 10), radii 301 and 8: spans 1347 and 538
abbrev started : List ℕ
started = field 1 ((2 ∷ 1 ∷ 1 ∷ 1 ∷ []) ++ bytes 4 1 ++ words (two (pos 1000) (negsuc 499))
    ++ (1 ∷ []) ++ words (two (pos 40) (negsuc 19)) ++ words (two (pos 6) (pos 10)) ++ words (two (pos 301) (pos 8)))

-- (x + y)/2 and y/4, without Q
abbrev entries : List ℕ
entries = words (two (pos 0) (pos 0)) ++ words (two (pos 2048) (pos 2048)) ++ words (two (pos 0) (pos 1024))
    ++ words (pos 0 ∷ pos 0 ∷ pos 0 ∷ pos 0 ∷ pos 0 ∷ pos 0 ∷ pos 0 ∷ pos 0 ∷ [])

-- the half-widths of A, then of Q
abbrev ranged : List ℤ → List ℤ → List ℕ
ranged a q = field 9 (two 2 2 ++ entries ++ words a ++ words q)

-- (250, -125) + (10, -5)·α + (8, 2) with these numbers carried
abbrev left : ℕ → ℕ → State
left r₁ r₂ = record {
  set = some (record {
    dimension = 2;
    identifiers = 1 ∷ [];
    centre = two (pos 250) (negsuc 124);
    terms = record { exponents = 1 ∷ []; coefficients = two (pos 10) (negsuc 4) } ∷ [];
    generators = two (pos 8) (pos 2) ∷ [];
    radii = record { carried = two r₁ r₂; rounded = two 0 1; folded = two 0 0; given = two 0 0 };
  });
  next = first_fresh;
  count = 2;
  over = false;
  folded = blank 6;
}

-- of the first coordinate S is 154 1/2 units and gains 69.2, which makes 224; of the second it is 2 and gains 9.5, which makes 12, and
-- there is an inexact rounding. Without half-widths they are 155 and 2, as after the step
pub half-widths-add :
    (run (fields (started ++ ranged (pos 205 ∷ pos 0 ∷ pos 3 ∷ pos 51 ∷ [])
    (pos 0 ∷ pos 40 ∷ pos 0 ∷ pos 3 ∷ pos 7 ∷ pos 0 ∷ pos 0 ∷ pos 60 ∷ []))) begin ≡ left 224 12)
    × (run (fields (started ++ ranged (pos 0 ∷ pos 0 ∷ pos 0 ∷ pos 0 ∷ [])
    (pos 0 ∷ pos 0 ∷ pos 0 ∷ pos 0 ∷ pos 0 ∷ pos 0 ∷ pos 0 ∷ pos 0 ∷ []))) begin ≡ left 155 2)
    × (run (fields (started ++ field 2 (two 2 2 ++ entries))) begin ≡ left 155 2)
unfolding after with_folds folds run causes first_of misplaced cut kind_of fields fields_within meaning number word given_set given_step
    given_widths beyond_with bad_range bad_order is_too_wide span term_sizes generator_sizes radius_of rises order sum_by upto_by tab any all
    Ranged.ranged_step gaining_step gain step rounded raw raw_centre raw_linear raw_square raw_pair pairs remainder dot bilinear
    inexact_at carried_at rounded_at round exact inexact finish drop_unused fold_generators fold_terms fold_high drop_zero_generators
    drop_zero_terms collect_terms insert collect_into those fold_all fold_vector shift growth fold_times fold_smallest smallest size keep_at
    longer even half half_size
half-widths-add = (refl, refl, refl)

-- the last two fields in any other state
pub zero-widths_anywhere : (st : State) → SameField st
    (ranged (pos 0 ∷ pos 0 ∷ pos 0 ∷ pos 0 ∷ []) (pos 0 ∷ pos 0 ∷ pos 0 ∷ pos 0 ∷ pos 0 ∷ pos 0 ∷ pos 0 ∷ pos 0 ∷ []))
    (field 2 (two 2 2 ++ entries))
unfolding cut number tab
zero-widths_anywhere st = zero-widths-field st _ _ (record { tags = (refl, refl); whole = (refl, refl); bodies = refl })

-- ---- refusals
-- the point 1,048,576 in one coordinate
abbrev far : State
far = record {
  set = some (record {
    dimension = 1;
    identifiers = [];
    centre = pos 1048576 ∷ [];
    terms = [];
    generators = [];
    radii = given_only 1 (0 ∷
        []);
  });
  next = first_fresh;
  count = 1;
  over = false;
  folded = blank 6;
}

-- x' = c + a·x + q·x², with half-widths
abbrev one : ℤ → ℤ → ℤ → ℤ → ℤ → List ℕ
one c a q wa wq = field 9 (two 1 1 ++ words (c ∷ a ∷ q ∷ wa ∷ wq ∷ []))

-- 1 cut short, 2 as the first field, 3 and 4 the body's counts and length, 5 dimension, 6 an entry, a negative half-width, and an entry
-- with its half-width beyond 32,768 but not at it, 10 a span that a half-width widens beyond the limit
pub ranged-causes :
    (refusal far (9 ∷ 1 ∷ 0 ∷ []) ≡ some 1)
    × (refusal begin (one (pos 0) (pos 0) (pos 0) (pos 0) (pos 0)) ≡ some 2)
    × (refusal far (field 9 (1 ∷ [])) ≡ some 3)
    × (refusal far (field 9 (1 ∷ 7 ∷ [])) ≡ some 4)
    × (refusal far (field 9 (two 1 1 ++ words (pos 0 ∷ pos 0 ∷ pos 0 ∷ []))) ≡ some 3)
    × (refusal far (field 9 (two 1 2 ++ words (pos 0 ∷ pos 0 ∷ pos 0 ∷ pos 0 ∷ pos 0 ∷ pos 0 ∷ pos 0 ∷ negsuc 0 ∷ pos 0 ∷ pos 0 ∷ pos 0
    ∷ pos 0 ∷ pos 0 ∷ []))) ≡ some 5)
    × (refusal far (one (pos 1048577) (pos 0) (pos 0) (pos 0) (pos 0)) ≡ some 6)
    × (refusal far (one (pos 0) (pos 0) (pos 0) (negsuc 0) (pos 0)) ≡ some 6)
    × (refusal far (one (pos 0) (pos 0) (pos 0) (pos 0) (negsuc 0)) ≡ some 6)
    × (refusal far (one (pos 0) (negsuc 32766) (pos 0) (pos 2) (pos 0)) ≡ some 6)
    × (refusal far (one (pos 0) (pos 0) (pos 32767) (pos 0) (pos 2)) ≡ some 6)
    × (refusal far (one (pos 0) (negsuc 32766) (pos 32767) (pos 1) (pos 1)) ≡ some 10)
    × (refusal far (one (pos 0) (pos 4095) (pos 0) (pos 1) (pos 0)) ≡ none)
    × (refusal far (one (pos 0) (pos 4095) (pos 0) (pos 2) (pos 0)) ≡ some 10)
unfolding causes first_of misplaced cut kind_of meaning number word given_step given_widths beyond_with is_too_wide span term_sizes generator_sizes
    radius_of sum_by upto_by tab any all Ranged.ranged_step gaining_step gain rounded raw raw_centre raw_linear raw_square raw_pair pairs
    remainder dot bilinear inexact_at carried_at rounded_at round exact inexact finish drop_unused fold_generators fold_terms fold_high
    drop_zero_generators drop_zero_terms collect_terms insert collect_into those fold_all fold_times fold_smallest smallest size keep_at longer
ranged-causes = (refl, refl, refl, refl, refl, refl, refl, refl, refl, refl, refl, refl, refl, refl)
