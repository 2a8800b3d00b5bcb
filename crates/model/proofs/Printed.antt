-- Document 01's listing and its two variants, from the bytes of the run file to the bytes that are printed.
use mathlib.Core.Path.{◌≡◌, refl}
use mathlib.Core.List.{[], ◌∷◌, ◌++◌}
use Rattle.whole.specs.Half.{half, half_size}
use Rattle.whole.specs.Round.{round, exact, inexact}
use Rattle.whole.specs.Sum.{sum_by, upto_by}
use Rattle.whole.specs.Tab.{tab, any, all}
use Rattle.rational.specs.Power.{even}
use Rattle.model.specs.Set.{term_sizes, generator_sizes, span, longer, radius_of}
use Rattle.model.specs.Valid.{order, rises, bad_range, bad_order, is_too_wide}
use Rattle.model.specs.Finish.{insert, collect_into, those, shift, growth, fold_vector, fold_all, size, smallest, fold_smallest, folds}
use Rattle.model.specs.Finish.{fold_times}
use Rattle.model.specs.Finish.{keep_at, collect_terms, drop_zero_terms, drop_zero_generators, fold_high, fold_terms, fold_generators}
use Rattle.model.specs.Finish.{drop_unused, finish}
use Rattle.model.specs.Step.{dot, bilinear, raw_centre, raw_linear, raw_square, raw_pair, pairs, remainder, raw, inexact_at}
use Rattle.model.specs.Step.{carried_at, rounded_at, rounded, step}
use Rattle.model.specs.Operations.{insert_identifier, union, align, joined, tied_sum, renumbered, independent_sum, least, greatest}
use Rattle.model.specs.Operations.{low_end}
use Rattle.model.specs.Operations.{high_end, box, low_along, safe}
use Rattle.model.specs.Bytes.{number, word, long}
use Rattle.model.specs.Body.{given_set, given_step, given_halfspaces}
use Rattle.model.specs.Field.{meaning}
use Rattle.model.specs.Run.{kind_of, first_of, misplaced, cut, causes, after, outcome, fields, fields_within, with_folds}
use Rattle.model.specs.Text.{ascii, decimal_within, decimal, signed_decimal, following, ends, box_line, verdict_line, refusal_line}
use Rattle.model.specs.Text.{folded_line, end_line, outcome_line, closing, lines_from, printed}
use Rattle.model.proofs.Listing.{body, beginning, checked, below, equal}

pub listing_printed :
    (printed (beginning ++ checked below ++ (5 ∷ body))
    ≡ ascii "0 1 -4096 4096\n1 2 -4096 8192\n2 7 safe\n3 5 0 4096\nfolded 0 0 0 0 0 0\nend 3\n")
    × (printed (beginning ++ checked equal) ≡ ascii "0 1 -4096 4096\n1 2 -4096 8192\n2 7 unknown\nfolded 0 0 0 0 0 0\nend 2\n")
    × (printed (beginning ++ checked below ++ (4 ∷ body))
    ≡ ascii "0 1 -4096 4096\n1 2 -4096 8192\n2 7 safe\n3 4 -8192 12288\nfolded 0 0 0 0 0 0\nend 3\n")
unfolding printed lines_from closing outcome_line folded_line end_line box_line verdict_line ends following signed_decimal decimal
    decimal_within ascii outcome after with_folds folds causes first_of misplaced cut kind_of fields fields_within meaning number word long
    given_set given_step given_halfspaces bad_range bad_order is_too_wide span term_sizes generator_sizes radius_of rises order sum_by upto_by tab any
    all step rounded raw raw_centre raw_linear raw_square raw_pair pairs remainder inexact_at carried_at rounded_at dot bilinear round exact
    inexact independent_sum tied_sum renumbered joined union insert_identifier align finish drop_unused fold_generators fold_terms fold_high
    drop_zero_generators drop_zero_terms collect_terms insert collect_into those fold_all fold_vector shift growth fold_times fold_smallest
    smallest size keep_at longer even half half_size box low_end high_end least greatest low_along safe
listing_printed = (refl, refl, refl)

-- an empty input, a lone unknown tag, a start set that is followed by one, and by a field that is cut short
pub refusals_printed :
    (printed [] ≡ ascii "0 refused 1 0\n")
    × (printed (255 ∷ []) ≡ ascii "0 refused 2 0\n")
    × (printed ((1 ∷ body) ++ (255 ∷ [])) ≡ ascii "0 1 -4096 4096\n1 refused 2 24\n")
    × (printed ((1 ∷ body) ++ (5 ∷ 21 ∷ [])) ≡ ascii "0 1 -4096 4096\n1 refused 1 24\n")
unfolding printed lines_from closing outcome_line box_line refusal_line ends following signed_decimal decimal decimal_within ascii outcome
    after with_folds folds causes first_of misplaced cut kind_of fields fields_within meaning number word long given_set given_step
    given_halfspaces bad_range bad_order is_too_wide span term_sizes generator_sizes radius_of rises order sum_by upto_by tab any all box low_end
    high_end least greatest even
refusals_printed = (refl, refl, refl, refl)
