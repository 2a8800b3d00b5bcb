-- A step and a ranged step from two coordinates to three, computed from their bytes: the entries of A by rows, of Q by forms and rows, and
-- the half-widths all differ, and each of them counts in one coordinate of the result.
use mathlib.Core.Path.{◌≡◌, refl}
use mathlib.Core.List.{List, [], ◌∷◌, ◌++◌}
use mathlib.Core.Bool.{false}
use mathlib.Core.Option.{some}
use Prim.Native.Nat.{ℕ}
use lib.ListN.{replicate}
use lib.IntN.{ℤ, pos, negsuc}
use Rattle.whole.specs.Half.{half, half_size}
use Rattle.whole.specs.Round.{round, exact, inexact}
use Rattle.whole.specs.Sum.{sum_by, upto_by}
use Rattle.whole.specs.Tab.{tab, any, all}
use Rattle.rational.specs.Power.{even}
use Rattle.model.specs.Limits.{first_fresh}
use Rattle.model.specs.Set.{term_sizes, generator_sizes, span, longer, radius_of, blank}
use Rattle.model.specs.Valid.{order, rises, bad_range, bad_order, is_too_wide}
use Rattle.model.specs.Finish.{insert, collect_into, those, shift, growth, fold_vector, fold_all, size, smallest, fold_smallest, folds}
use Rattle.model.specs.Finish.{fold_times, keep_at, collect_terms, drop_zero_terms, drop_zero_generators, fold_high, fold_terms}
use Rattle.model.specs.Finish.{fold_generators, drop_unused, finish}
use Rattle.model.specs.Step.{dot, bilinear, raw_centre, raw_linear, raw_square, raw_pair, pairs, remainder, raw, inexact_at}
use Rattle.model.specs.Step.{carried_at, rounded_at, rounded, step}
use Rattle.model.specs.Operations.{least, greatest, low_end, high_end, box}
use Rattle.model.specs.Ranged.{gain, gaining_step}
use Rattle.model.specs.Ranged as Ranged
use Rattle.model.specs.Bytes.{number, word}
use Rattle.model.specs.Body.{given_set, given_step, given_widths}
use Rattle.model.specs.Field.{inside, meaning, beyond_with}
use Rattle.model.specs.Run.{Answer, State, begin, kind_of, first_of, misplaced, cut, causes, after, outcome, answers, fields, with_folds}
use Rattle.model.specs.Run.{fields_within, run}
use Rattle.model.proofs.Radii.{carried_only}
use Rattle.model.proofs.Written.{bytes, words, field}

-- a number for each coordinate
abbrev two : {A : Type 0} → A → A → List A
two a b = a ∷ b ∷ []

abbrev three : {A : Type 0} → A → A → A → List A
three a b c = a ∷ b ∷ c ∷ []

-- ---- the fields
-- in units of 4096: centre k = (1, 2), term (3, -1)·α, generator (-1, 5), radii 2 and 1; so D = (3, 1), r = (3, 6), spans M = (7, 9)
abbrev started : List ℕ
started = field 1 ((2 ∷ 1 ∷ 1 ∷ 1 ∷ []) ++ bytes 4 1 ++ words (two (pos 4096) (pos 8192))
    ++ (1 ∷ []) ++ words (two (pos 12288) (negsuc 4095)) ++ words (two (negsuc 4095) (pos 20480)) ++ words (two (pos 8192) (pos 4096)))

-- c, the rows of A, and the forms of Q
abbrev entries : List ℕ
entries = (3 ∷ 2 ∷ []) ++ words (three (pos 100) (pos 200) (pos 300))
    ++ words (two (pos 13) (pos 14)) ++ words (two (pos 15) (negsuc 15)) ++ words (two (pos 17) (pos 18))
    ++ words (two (pos 1) (negsuc 1)) ++ words (two (pos 3) (pos 4))
    ++ words (two (pos 5) (pos 6)) ++ words (two (negsuc 6) (pos 8))
    ++ words (two (pos 9) (negsuc 9)) ++ words (two (pos 11) (pos 12))

abbrev stepped : List ℕ
stepped = field 2 entries

-- with these half-widths of A's entries and of Q's
abbrev ranged : List ℤ → List ℤ → List ℕ
ranged a q = field 9 (entries ++ words a ++ words q)

-- ---- what is left
-- whole numbers, as the set's are in units of 4096: for the first coordinate
--     centre       100 + 13·1 + 14·2 + (1·1 + (-2 + 3)·2 + 4·4)
--     α            13·3 - 14 + (2·1·3 + (-2 + 3)·(2·3 - 1) - 2·4·2)
--     α²           1·9 - (-2 + 3)·3 + 4·1
--     generator    -13 + 14·5 + (-2·1 + (-2 + 3)·(5 - 2) + 2·4·10)
-- with these numbers carried
abbrev left : ℕ → ℕ → ℕ → State
left r₁ r₂ r₃ = record {
  set = some (record {
    dimension = 3;
    identifiers = 1 ∷ [];
    centre = three (pos 160) (pos 218) (pos 412);
    terms = record { exponents = 1 ∷ []; coefficients = three (pos 20) (pos 54) (pos 44) }
        ∷ record { exponents = 2 ∷ []; coefficients = three (pos 10) (pos 56) (pos 90) }
        ∷ [];
    generators = three (pos 138) (pos 52) (pos 298) ∷ [];
    radii = carried_only 3 (three r₁ r₂ r₃);
  });
  next = first_fresh;
  count = 2;
  over = false;
  folded = blank 6;
}

abbrev said : ℕ → List ℤ → List ℤ → Answer
said n lows highs = record { field = n; outcome = inside (record { lows = lows; highs = highs }) }

-- S of the first coordinate is (13 + 2·1 + (-2 + 3)·2)·2 + (14 + (-2 + 3) + 2·4·2)·1 + 1·27 + (2 + 3)·39 + 4·48 = 479
pub to_three :
    (run (fields (started ++ stepped)) begin ≡ left 479 1087 1779)
    × (answers 0 begin (fields (started ++ stepped))
    ≡ said 0 (two (negsuc 20479) (negsuc 20479)) (two (pos 28672) (pos 36864))
    ∷ said 1 (three (negsuc 476) (negsuc 974) (negsuc 1708)) (three (pos 807) (pos 1467) (pos 2623))
    ∷ [])
unfolding answers outcome after with_folds folds run causes first_of misplaced cut kind_of fields fields_within meaning number word given_set
    given_step bad_range bad_order is_too_wide span term_sizes generator_sizes radius_of rises order sum_by upto_by tab any all step rounded raw
    raw_centre raw_linear raw_square raw_pair pairs remainder dot bilinear inexact_at carried_at rounded_at round exact inexact finish
    drop_unused fold_generators fold_terms fold_high drop_zero_generators drop_zero_terms collect_terms insert collect_into those fold_all
    fold_vector shift growth fold_times fold_smallest smallest size keep_at longer even half half_size box low_end high_end least greatest
to_three = (refl, refl)

-- it gains 1·7 + 2·9 + 7·49 + (8 + 9)·63 + 10·81 = 2249. A half-width counts in its row's or form's coordinate alone: 6·9 in the third,
-- and 14·81 in the second
pub ranged_to_three :
    (run (fields (started ++ ranged (pos 1 ∷ pos 2 ∷ pos 3 ∷ pos 4 ∷ pos 5 ∷ pos 6 ∷ [])
    (pos 7 ∷ pos 8 ∷ pos 9 ∷ pos 10 ∷ pos 11 ∷ pos 12 ∷ pos 13 ∷ pos 14 ∷ pos 15 ∷ pos 16 ∷ pos 17 ∷ pos 18 ∷ []))) begin
    ≡ left 2728 4392 6140)
    × (run (fields (started ++ ranged (replicate 5 (pos 0) ++ (pos 6 ∷ []))
    (replicate 7 (pos 0) ++ (pos 14 ∷ []) ++ replicate 4 (pos 0)))) begin
    ≡ left 479 2221 1833)
unfolding after with_folds folds run causes first_of misplaced cut kind_of fields fields_within meaning number word given_set given_step
    given_widths beyond_with bad_range bad_order is_too_wide span term_sizes generator_sizes radius_of rises order sum_by upto_by tab any all
    Ranged.ranged_step gaining_step gain rounded raw raw_centre raw_linear raw_square raw_pair pairs remainder dot bilinear inexact_at
    carried_at rounded_at round exact inexact finish drop_unused fold_generators fold_terms fold_high drop_zero_generators drop_zero_terms
    collect_terms insert collect_into those fold_all fold_vector shift growth fold_times fold_smallest smallest size keep_at longer even half
    half_size
ranged_to_three = (refl, refl)
