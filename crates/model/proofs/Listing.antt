-- Document 01's listing and its two variants, computed by the definitions from the bytes of the run file.
use mathlib.Core.Path.{◌≡◌, refl}
use mathlib.Core.List.{List, [], ◌∷◌, ◌++◌}
use mathlib.Core.Bool.{true, false}
use Prim.Native.Nat.{ℕ}
use lib.IntN.{ℤ, pos, negsuc}
use Rattle.whole.specs.Half.{half, half_size}
use Rattle.whole.specs.Round.{round, exact, inexact}
use Rattle.whole.specs.Sum.{sum_by, upto_by}
use Rattle.whole.specs.Tab.{tab, any, all}
use Rattle.rational.specs.Power.{even}
use Rattle.model.specs.Set.{term_sizes, generator_sizes, span, longer, radius_of}
use Rattle.model.specs.Valid.{order, rises, bad_range, bad_order, is_too_wide}
use Rattle.model.specs.Finish.{insert, collect_into, those, shift, growth, fold_vector, fold_all, size, smallest, fold_smallest, folds}
use Rattle.model.specs.Finish.{fold_times}
use Rattle.model.specs.Finish.{keep_at, collect_terms, drop_zero_terms, drop_zero_generators, fold_high, fold_terms, fold_generators}
use Rattle.model.specs.Finish.{drop_unused, finish}
use Rattle.model.specs.Step.{dot, bilinear, raw_centre, raw_linear, raw_square, raw_pair, pairs, remainder, raw, inexact_at}
use Rattle.model.specs.Step.{carried_at, rounded_at, rounded, step}
use Rattle.model.specs.Operations.{insert_identifier, union, align, joined, tied_sum, renumbered, independent_sum, least, greatest}
use Rattle.model.specs.Operations.{low_end, high_end, box, low_along, safe}
use Rattle.model.specs.Bytes.{number, word, long}
use Rattle.model.specs.Body.{given_set, given_step, given_halfspaces}
use Rattle.model.specs.Field.{Outcome, inside, verdict, refused, meaning}
use Rattle.model.specs.Run.{Answer, begin, kind_of, first_of, misplaced, cut, causes, after, outcome, answers, fields, fields_within}
use Rattle.model.specs.Run.{with_folds}

-- 4096·α, with identifier 1, as the body of a start set or a sum
abbrev pub body : List ℕ
body = 21 ∷ 0 ∷ 1 ∷ 1 ∷ 1 ∷ 0 ∷ 1 ∷ 0 ∷ 0 ∷ 0 ∷ 0 ∷ 0 ∷ 0 ∷ 0 ∷ 1 ∷ 0 ∷ 16 ∷ 0 ∷ 0 ∷ 0 ∷ 0 ∷ 0 ∷ 0 ∷ []

-- the start, and the step with c 0, A -4096, Q 4096
abbrev pub beginning : List ℕ
beginning = (1 ∷ body) ++ (2 ∷ 14 ∷ 0 ∷ 1 ∷ 1 ∷ 0 ∷ 0 ∷ 0 ∷ 0 ∷ 0 ∷ 240 ∷ 255 ∷ 255 ∷ 0 ∷ 16 ∷ 0 ∷ 0 ∷ [])

-- a check with a 4096 and a bound whose lowest byte and next are these: 255 255 is -16,777,217, 0 0 with 255 is -16,777,216
abbrev pub checked : List ℕ → List ℕ
checked bound = (7 ∷ 14 ∷ 0 ∷ 1 ∷ 1 ∷ 0 ∷ 16 ∷ 0 ∷ 0 ∷ []) ++ bound

abbrev pub below : List ℕ
below = 255 ∷ 255 ∷ 255 ∷ 254 ∷ 255 ∷ 255 ∷ 255 ∷ 255 ∷ []

abbrev pub equal : List ℕ
equal = 0 ∷ 0 ∷ 0 ∷ 255 ∷ 255 ∷ 255 ∷ 255 ∷ 255 ∷ []

abbrev line : ℕ → ℤ → ℤ → Answer
line n low high = record { field = n; outcome = inside (record { lows = low ∷ []; highs = high ∷ [] }) }

abbrev said : ℕ → Outcome → Answer
said n o = record { field = n; outcome = o }

abbrev answered : List ℕ → List Answer
answered input = answers 0 begin (fields input)

pub listing :
    (answered (beginning ++ checked below ++ (5 ∷ body))
    ≡ line 0 (negsuc 4095) (pos 4096) ∷ line 1 (negsuc 4095) (pos 8192) ∷ said 2 (verdict true) ∷ line 3 (pos 0) (pos 4096) ∷ [])
    × (answered (beginning ++ checked equal) ≡ line 0 (negsuc 4095) (pos 4096) ∷ line 1 (negsuc 4095) (pos 8192) ∷ said 2 (verdict false)
    ∷ [])
    × (answered (beginning ++ checked below ++ (4 ∷ body))
    ≡ line 0 (negsuc 4095) (pos 4096) ∷ line 1 (negsuc 4095) (pos 8192) ∷ said 2 (verdict true) ∷ line 3 (negsuc 8191) (pos 12288) ∷ [])
unfolding answers outcome after with_folds folds causes first_of misplaced cut kind_of fields fields_within meaning number word long
    given_set given_step given_halfspaces bad_range bad_order is_too_wide span term_sizes generator_sizes radius_of rises order sum_by upto_by tab any
    all step rounded raw raw_centre raw_linear raw_square raw_pair pairs remainder inexact_at carried_at rounded_at dot bilinear round exact
    inexact independent_sum tied_sum renumbered joined union insert_identifier align finish drop_unused fold_generators fold_terms fold_high
    drop_zero_generators drop_zero_terms collect_terms insert collect_into those fold_all fold_vector shift growth fold_times fold_smallest
    smallest size keep_at longer even half half_size box low_end high_end least greatest low_along safe
listing = (refl, refl, refl)

-- an empty input, a lone unknown tag, a lone known one, and a start set that is cut short
pub refusals :
    (answered [] ≡ said 0 (refused 1 0) ∷ [])
    × (answered (255 ∷ []) ≡ said 0 (refused 2 0) ∷ [])
    × (answered (1 ∷ []) ≡ said 0 (refused 1 0) ∷ [])
    × (answered ((1 ∷ body) ++ (255 ∷ [])) ≡ line 0 (negsuc 4095) (pos 4096) ∷ said 1 (refused 2 24) ∷ [])
unfolding answers outcome after with_folds folds causes first_of misplaced cut kind_of fields fields_within meaning number word long
    given_set given_step given_halfspaces bad_range bad_order is_too_wide span term_sizes generator_sizes radius_of rises order sum_by upto_by tab any
    all box low_end high_end least greatest even
refusals = (refl, refl, refl, refl)
