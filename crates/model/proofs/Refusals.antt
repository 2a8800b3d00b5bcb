-- Each limit of a file's fields from both sides, and each number that refuses a field, computed from bytes.
use mathlib.Core.Path.{◌≡◌, refl}
use mathlib.Core.List.{List, [], ◌∷◌, ◌++◌}
use mathlib.Core.Bool.{cond, false}
use mathlib.Core.Option.{none, some}
use Prim.Native.Nat.{ℕ, zero, suc}
use lib.Dec.{eqb}
use lib.IntN.{ℤ, pos, negsuc}
use Rattle.whole.specs.Half.{half, half_size}
use Rattle.whole.specs.Round.{round, exact, inexact}
use Rattle.whole.specs.Sum.{sum_by, upto_by}
use Rattle.whole.specs.Tab.{tab, any, all}
use Rattle.rational.specs.Power.{even}
use Rattle.model.specs.Limits.{first_fresh}
use Rattle.model.specs.Set.{term_sizes, generator_sizes, span, longer, radius_of, blank, given_only}
use Rattle.model.specs.Valid.{order, rises, bad_range, bad_order, is_too_wide}
use Rattle.model.specs.Finish.{insert, collect_into, those, shift, growth, fold_vector, fold_all, size, smallest, fold_smallest}
use Rattle.model.specs.Finish.{fold_times, keep_at, collect_terms, drop_zero_terms, drop_zero_generators, fold_high, fold_terms}
use Rattle.model.specs.Finish.{fold_generators, drop_unused, finish}
use Rattle.model.specs.Step.{dot, bilinear, raw_centre, raw_linear, raw_square, raw_pair, pairs, remainder, raw, inexact_at}
use Rattle.model.specs.Step.{carried_at, rounded_at, rounded, step}
use Rattle.model.specs.Operations.{insert_identifier, union, align, joined, tied_sum, renumbered, independent_sum, disturb, reduce}
use Rattle.model.specs.Bytes.{number, word, long}
use Rattle.model.specs.Body.{given_set, given_step, given_halfspaces, given_radii}
use Rattle.model.specs.Field.{meaning}
use Rattle.model.specs.Run.{State, begin, kind_of, first_of, misplaced, cut, causes, refusal}
use Rattle.model.proofs.Written.{bytes, signed, words, field}

-- a run that has the point 0 in one coordinate
abbrev origin : State
origin = record {
  set = some (record { dimension = 1; identifiers = []; centre = pos 0 ∷ []; terms = []; generators = []; radii = given_only 1 (0 ∷ []) });
  next = first_fresh;
  count = 1;
  over = false;
  folded = blank 6;
}

-- one that has 1·α, α being factor 1
abbrev line : State
line = record {
  set = some (record {
    dimension = 1;
    identifiers = 1 ∷ [];
    centre = pos 0 ∷ [];
    terms = record { exponents = 1 ∷ []; coefficients = pos 1 ∷ [] } ∷ [];
    generators = [];
    radii = given_only 1 (0 ∷ []);
  });
  next = first_fresh;
  count = 1;
  over = false;
  folded = blank 6;
}

-- a start set of four counts alone
abbrev counts : ℕ → ℕ → ℕ → ℕ → List ℕ
counts n p h q = field 1 (n ∷ p ∷ h ∷ q ∷ [])

-- a start set g·α^e with this identifier and radius
abbrev power : ℕ → ℕ → ℤ → ℤ → List ℕ
power k e g r = field 1 ((1 ∷ 1 ∷ 1 ∷ 0 ∷ []) ++ bytes 4 k ++ words (pos 0 ∷ []) ++ (e ∷ []) ++ words (g ∷ []) ++ words (r ∷ []))

-- a step in one coordinate
abbrev stepped : ℤ → ℤ → ℤ → List ℕ
stepped c a q = field 2 ((1 ∷ 1 ∷ []) ++ words (c ∷ a ∷ q ∷ []))

abbrev disturbed : ℤ → List ℕ
disturbed r = field 3 ((1 ∷ []) ++ words (r ∷ []))

-- this many times the halfspace a·x ≤ b
abbrev halfspaces : ℕ → ℤ → ℤ → List ℕ
halfspaces zero a b = []
halfspaces (suc n) a b = words (a ∷ []) ++ signed 8 b ++ halfspaces n a b

abbrev checked : ℕ → ℤ → ℤ → List ℕ
checked n a b = field 7 ((1 ∷ n ∷ []) ++ halfspaces n a b)

-- a set of twelve factors and their sum, in the body of a sum: the terms n - 1 .. 0, each a factor with coefficient 1
abbrev factors : ℕ → List ℕ
factors zero = []
factors (suc n) = tab 12 (λ j. cond (eqb j n) 1 0) ++ words (pos 1 ∷ []) ++ factors n

abbrev numbered : ℕ → ℕ → List ℕ
numbered k zero = []
numbered k (suc n) = bytes 4 k ++ numbered (suc k) n

abbrev twelve : ℕ → ℕ → List ℕ
twelve tag k = field tag ((1 ∷ 12 ∷ 12 ∷ 0 ∷ []) ++ numbered k 12 ++ words (pos 0 ∷ []) ++ factors 12 ++ words (pos 0 ∷ []))

-- 4: counts at their limits pass (and the length is refused, 3), one more or none is refused
pub count_limits :
    (refusal begin (counts 6 12 40 24) ≡ some 3)
    × (refusal begin (counts 7 12 40 24) ≡ some 4)
    × (refusal begin (counts 0 12 40 24) ≡ some 4)
    × (refusal begin (counts 6 13 40 24) ≡ some 4)
    × (refusal begin (counts 6 12 41 24) ≡ some 4)
    × (refusal begin (counts 6 12 40 25) ≡ some 4)
    × (refusal origin (field 6 (40 ∷ 24 ∷ [])) ≡ none)
    × (refusal origin (field 6 (41 ∷ 24 ∷ [])) ≡ some 4)
    × (refusal origin (field 6 (40 ∷ 25 ∷ [])) ≡ some 4)
    × (refusal origin (checked 8 (pos 0) (pos 0)) ≡ none)
    × (refusal origin (checked 9 (pos 0) (pos 0)) ≡ some 4)
    × (refusal origin (checked 0 (pos 0) (pos 0)) ≡ some 4)
unfolding causes first_of misplaced cut kind_of meaning number word long given_set given_halfspaces bad_range bad_order is_too_wide span term_sizes
    generator_sizes radius_of rises order sum_by upto_by tab any all reduce finish drop_unused fold_generators fold_terms fold_high
    drop_zero_generators drop_zero_terms collect_terms insert collect_into those fold_all fold_times fold_smallest smallest size keep_at longer
count_limits = (refl, refl, refl, refl, refl, refl, refl, refl, refl, refl, refl, refl)

-- 6: numbers at their limits pass, one more or less is refused
pub range_limits :
    (refusal begin (power 65535 63 (pos 1) (pos 0)) ≡ none)
    × (refusal begin (power 65536 63 (pos 1) (pos 0)) ≡ some 6)
    × (refusal begin (power 0 63 (pos 1) (pos 0)) ≡ some 6)
    × (refusal begin (power 65535 64 (pos 1) (pos 0)) ≡ some 6)
    × (refusal begin (power 65535 63 (pos 1) (negsuc 0)) ≡ some 6)
    × (refusal origin (stepped (pos 1048576) (pos 32768) (negsuc 32767)) ≡ none)
    × (refusal origin (stepped (negsuc 1048576) (pos 0) (pos 0)) ≡ some 6)
    × (refusal origin (stepped (pos 0) (pos 32769) (pos 0)) ≡ some 6)
    × (refusal origin (stepped (pos 0) (pos 0) (negsuc 32768)) ≡ some 6)
    × (refusal origin (disturbed (pos 1048576)) ≡ none)
    × (refusal origin (disturbed (pos 1048577)) ≡ some 6)
    × (refusal origin (disturbed (negsuc 0)) ≡ some 6)
    × (refusal origin (checked 1 (negsuc 32767) (pos 1099511627776)) ≡ none)
    × (refusal origin (checked 1 (pos 32769) (pos 0)) ≡ some 6)
    × (refusal origin (checked 1 (pos 0) (negsuc 1099511627776)) ≡ some 6)
unfolding causes first_of misplaced cut kind_of meaning number word long given_set given_step given_halfspaces given_radii bad_range bad_order
    is_too_wide span term_sizes generator_sizes radius_of rises order sum_by upto_by tab any all step rounded raw raw_centre raw_linear raw_square
    raw_pair pairs remainder inexact_at carried_at rounded_at dot bilinear round exact inexact disturb finish drop_unused fold_generators
    fold_terms fold_high drop_zero_generators drop_zero_terms collect_terms insert collect_into those fold_all fold_times fold_smallest smallest
    size keep_at longer
range_limits = (refl, refl, refl, refl, refl, refl, refl, refl, refl, refl, refl, refl, refl, refl, refl)

-- the other numbers: 1 cut short, 2 tag, 3 length, 5 dimension, 7 zero term and factor without term, 8 width, 9 factors, 10 result
pub other_causes :
    (refusal begin [] ≡ some 1)
    × (refusal begin (1 ∷ 4 ∷ 0 ∷ 1 ∷ []) ≡ some 1)
    × (refusal begin (2 ∷ []) ≡ some 2)
    × (refusal origin (255 ∷ []) ≡ some 2)
    × (refusal origin (power 1 1 (pos 1) (pos 0)) ≡ some 2)
    × (refusal origin (field 3 []) ≡ some 3)
    × (refusal origin (field 3 (1 ∷ 0 ∷ 0 ∷ 0 ∷ 0 ∷ 0 ∷ [])) ≡ some 3)
    × (refusal origin (field 3 ((2 ∷ []) ++ words (pos 0 ∷ pos 0 ∷ []))) ≡ some 5)
    × (refusal begin (power 1 1 (pos 0) (pos 0)) ≡ some 7)
    × (refusal begin (power 1 0 (pos 1) (pos 0)) ≡ some 7)
    × (refusal begin (power 1 1 (pos 1048577) (pos 0)) ≡ some 8)
    × (refusal line (twelve 5 1) ≡ none)
    × (refusal line (twelve 5 2) ≡ some 9)
    × (refusal line (twelve 4 1) ≡ some 9)
    × (refusal line (disturbed (pos 1048576)) ≡ some 10)
unfolding causes first_of misplaced cut kind_of meaning number word long given_set given_radii bad_range bad_order is_too_wide span term_sizes
    generator_sizes radius_of rises order sum_by upto_by tab any all independent_sum tied_sum renumbered joined union insert_identifier align
    disturb finish drop_unused fold_generators fold_terms fold_high drop_zero_generators drop_zero_terms collect_terms insert collect_into those
    fold_all fold_vector shift growth fold_times fold_smallest smallest size keep_at longer even half half_size
other_causes = (refl, refl, refl, refl, refl, refl, refl, refl, refl, refl, refl, refl, refl, refl, refl)
