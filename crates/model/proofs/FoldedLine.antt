-- A line `folded` with numbers, from the bytes of a run file to the bytes that are printed: two reductions and a step between them.
use mathlib.Core.Path.{◌≡◌, refl}
use mathlib.Core.List.{List, [], ◌∷◌, ◌++◌}
use Prim.Native.Nat.{ℕ}
use lib.IntN.{pos, negsuc}
use Rattle.whole.specs.Half.{half, half_size}
use Rattle.whole.specs.Round.{round, exact, inexact}
use Rattle.whole.specs.Sum.{sum_by, upto_by}
use Rattle.whole.specs.Tab.{tab, any, all}
use Rattle.rational.specs.Power.{even}
use Rattle.model.specs.Set.{term_sizes, generator_sizes, span, longer, radius_of}
use Rattle.model.specs.Valid.{order, rises, bad_range, bad_order, is_too_wide}
use Rattle.model.specs.Finish.{insert, collect_into, those, shift, growth, fold_vector, fold_all, size, smallest, fold_smallest, folds}
use Rattle.model.specs.Finish.{fold_times, keep_at, collect_terms, drop_zero_terms, drop_zero_generators, fold_high, fold_terms}
use Rattle.model.specs.Finish.{fold_generators, drop_unused, finish}
use Rattle.model.specs.Step.{dot, bilinear, raw_centre, raw_linear, raw_square, raw_pair, pairs, remainder, raw, inexact_at}
use Rattle.model.specs.Step.{carried_at, rounded_at, rounded, step}
use Rattle.model.specs.Operations.{reduce, least, greatest, low_end, high_end, box}
use Rattle.model.specs.Bytes.{number, word}
use Rattle.model.specs.Body.{given_set, given_step}
use Rattle.model.specs.Field.{meaning}
use Rattle.model.specs.Run.{kind_of, first_of, misplaced, cut, causes, after, outcome, fields, fields_within, with_folds}
use Rattle.model.specs.Text.{ascii, decimal_within, decimal, signed_decimal, following, ends, box_line, folded_line, end_line}
use Rattle.model.specs.Text.{outcome_line, closing, lines_from, printed}
use Rattle.model.proofs.Written.{bytes, words, field}

-- two numbers
abbrev two : {A : Type 0} → A → A → List A
two a b = a ∷ b ∷ []

-- terms (3, 10)·α, (5, -7)·α² and (40, -20)·α³ with α 1, generator (2, 6)
abbrev started : List ℕ
started = field 1 ((2 ∷ 1 ∷ 3 ∷ 1 ∷ []) ++ bytes 4 1 ++ words (two (pos 0) (pos 0))
    ++ (1 ∷ words (two (pos 3) (pos 10))) ++ (2 ∷ words (two (pos 5) (negsuc 6))) ++ (3 ∷ words (two (pos 40) (negsuc 19)))
    ++ words (two (pos 2) (pos 6)) ++ words (two (pos 0) (pos 0)))

-- to these numbers of terms and generators
abbrev reduced : ℕ → ℕ → List ℕ
reduced h q = field 6 (two h q)

-- x, y and x + y
abbrev stepped : List ℕ
stepped = field 2 (two 3 2 ++ words (pos 0 ∷ pos 0 ∷ pos 0 ∷ [])
    ++ words (two (pos 4096) (pos 0)) ++ words (two (pos 0) (pos 4096)) ++ words (two (pos 4096) (pos 4096)) ++ words (tab 12 (λ i. pos 0)))

-- the first reduction folds all but (40, -20)·α³: 3 + 3 + 2 and 10 + 4 + 6, and the centre is (2, -3); the step carries them, and the last
-- folds (40, -20, 20)·α³
pub folds-printed :
    printed (started ++ reduced 1 0 ++ stepped ++ reduced 0 0)
    ≡ ascii "0 1 -45 50 -43 36\n1 6 -46 50 -43 37\n2 2 -46 50 -43 37 -49 47\n3 6 -46 50 -43 37 -49 47\nfolded 48 40 20 0 0 0\nend 3\n"
unfolding printed lines_from closing outcome_line folded_line end_line box_line ends following signed_decimal decimal decimal_within ascii
    outcome after with_folds folds causes first_of misplaced cut kind_of fields fields_within meaning number word given_set given_step bad_range
    bad_order is_too_wide span term_sizes generator_sizes radius_of rises order sum_by upto_by tab any all step rounded raw raw_centre raw_linear
    raw_square raw_pair pairs remainder dot bilinear inexact_at carried_at rounded_at round exact inexact reduce finish drop_unused
    fold_generators fold_terms fold_high drop_zero_generators drop_zero_terms collect_terms insert collect_into those fold_all fold_vector shift
    growth fold_times fold_smallest smallest size keep_at longer even half half_size box low_end high_end least greatest
folds-printed = refl
