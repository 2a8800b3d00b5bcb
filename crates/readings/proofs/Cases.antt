-- Floats, entries and logs, computed by the definitions: from the bytes of a log and of a run file to the bytes that are printed.
use mathlib.Core.Path.{◌≡◌, refl, ap}
use mathlib.Core.List.{List, [], ◌∷◌, ◌++◌}
use mathlib.Core.Option.{none, some}
use mathlib.Core.Bool.{true, false}
use Prim.Native.Nat.{ℕ, ◌*◌, ◌^◌}
use lib.IntN.{pos, negsuc, neg_ℤ}
use Rattle.whole.specs.Half.{half, half_size}
use Rattle.whole.specs.Round.{round, exact, inexact}
use Rattle.whole.specs.Sum.{sum_by, upto_by}
use Rattle.whole.specs.Tab.{tab, any, all}
use Rattle.rational.specs.Power.{even}
use Rattle.floats.specs.Bits.{value149, is_inside}
use Rattle.model.specs.Set.{term_sizes, generator_sizes, span, longer, radius_of}
use Rattle.model.specs.Valid.{order, rises, bad_range, bad_order, is_too_wide}
use Rattle.model.specs.Finish.{insert, collect_into, those, shift, growth, fold_vector, fold_all, size, smallest, fold_smallest, folds}
use Rattle.model.specs.Finish.{fold_times, keep_at, collect_terms, drop_zero_terms, drop_zero_generators, fold_high, fold_terms, fold_generators}
use Rattle.model.specs.Finish.{drop_unused, finish}
use Rattle.model.specs.Step.{dot, bilinear, raw_centre, raw_linear, raw_square, raw_pair, pairs, remainder, raw, inexact_at}
use Rattle.model.specs.Step.{carried_at, rounded_at, rounded, step}
use Rattle.model.specs.Operations.{insert_identifier, union, align, joined, tied_sum, renumbered, independent_sum, least, greatest}
use Rattle.model.specs.Operations.{low_end, high_end, box, low_along, safe}
use Rattle.model.specs.Bytes.{number, word, long}
use Rattle.model.specs.Body.{given_set, given_step, given_halfspaces}
use Rattle.model.specs.Field.{meaning}
use Rattle.model.specs.Run.{kind_of, first_of, misplaced, cut, causes, accepted, after, outcome, fields, fields_within, with_folds}
use Rattle.model.specs.Text.{ascii, decimal_within, decimal, following}
use Rattle.model.specs.Reading.{bytes, parts, onto, line_ends}
use Rattle.model.specs.Promised.{accepted_from, accepted_fields, coordinates_after, coordinates_from, coordinates}
use Rattle.model.proofs.Written.{words, field}
use Rattle.model.proofs.Listing.{body, beginning, checked, below}
use Rattle.readings.specs.Entry.{Entry, entry_at, Ends, Standing, standing_of}
use Rattle.readings.specs.Asked.{paired, asked_of, asked_from, asked}
use Rattle.readings.specs.Held.{judged_from, counted, counts_of, standing_line, standing_lines, counts_line, refused_line, text_of, held}
use Rattle.readings.specs.Ruled.{entries_from, entry_of, line_bytes}

-- ---- floats
-- Values in units of 2^-149: both zeros, the smallest sizes, the largest subnormal, the smallest normal and the next exponent, 1 and the
-- float above it, -0.5, a number whose bytes all differ, the largest finite float.
pub float_values :
    (value149 0 ≡ pos 0)
    × (value149 2147483648 ≡ pos 0)
    × (value149 1 ≡ pos 1)
    × (value149 2147483649 ≡ negsuc 0)
    × (value149 8388607 ≡ pos 8388607)
    × (value149 8388608 ≡ pos 8388608)
    × (value149 16777216 ≡ pos 16777216)
    × (value149 1065353216 ≡ pos (2 ^ 149))
    × (value149 1065353217 ≡ pos (8388609 * 2 ^ 126))
    × (value149 3204448256 ≡ neg_ℤ (pos (2 ^ 148)))
    × (value149 3226013659 ≡ neg_ℤ (pos (13176795 * 2 ^ 127)))
    × (value149 2139095039 ≡ pos (16777215 * 2 ^ 253))
float_values = (refl, refl, refl, refl, refl, refl, refl, refl, refl, refl, refl, refl)

-- 1 is on both ends of [4096, 4096], the floats next to it are not; -0.5 is on those of [-2048, -2048].
pub on_an_end :
    (is_inside (pos 4096) (pos 4096) 1065353216 ≡ true)
    × (is_inside (pos 4097) (pos 5000) 1065353216 ≡ false)
    × (is_inside (pos 0) (pos 4095) 1065353216 ≡ false)
    × (is_inside (pos 4096) (pos 4096) 1065353217 ≡ false)
    × (is_inside (pos 4096) (pos 4097) 1065353217 ≡ true)
    × (is_inside (pos 4096) (pos 4096) 1065353215 ≡ false)
    × (is_inside (pos 4095) (pos 4096) 1065353215 ≡ true)
    × (is_inside (negsuc 2047) (negsuc 2047) 3204448256 ≡ true)
    × (is_inside (pos 2048) (pos 2048) 3204448256 ≡ false)
unfolding is_inside
on_an_end = (refl, refl, refl, refl, refl, refl, refl, refl, refl)

-- Both zeros are inside [0, 0], the smallest floats beside them only inside [-1, 1]; 256 is on the end of the widest box, and outside are
-- the next float, 2^116, whose product by 4096 no float holds, and the largest.
pub far_and_near :
    (is_inside (pos 0) (pos 0) 0 ≡ true)
    × (is_inside (pos 0) (pos 0) 2147483648 ≡ true)
    × (is_inside (pos 0) (pos 0) 1 ≡ false)
    × (is_inside (pos 0) (pos 0) 2147483649 ≡ false)
    × (is_inside (negsuc 0) (pos 1) 1 ≡ true)
    × (is_inside (negsuc 0) (pos 1) 2147483649 ≡ true)
    × (is_inside (negsuc 1048575) (pos 1048576) 2038431744 ≡ false)
    × (is_inside (negsuc 1048575) (pos 1048576) 2139095039 ≡ false)
    × (is_inside (negsuc 1048575) (pos 1048576) 4286578687 ≡ false)
    × (is_inside (negsuc 1048575) (pos 1048576) 1132462080 ≡ true)
    × (is_inside (negsuc 1048575) (pos 1048576) 1132462081 ≡ false)
unfolding is_inside
far_and_near = (refl, refl, refl, refl, refl, refl, refl, refl, refl, refl, refl)

-- ---- entries
-- five bytes
abbrev entry : ℕ → ℕ → ℕ → ℕ → ℕ → List ℕ
entry first a b c d = first ∷ a ∷ b ∷ c ∷ d ∷ []

-- A reading has its bits in four bytes, the least first, wherever it stands; a missing one has any four bytes. An infinity, a NaN, another
-- first byte, an entry that is cut short and one that is not there are refused.
pub entry_cases :
    (entry_at (entry 1 1 2 3 4) 0 ≡ some (Entry.reading 67305985))
    × (entry_at (entry 0 9 9 9 9 ++ entry 1 1 2 3 4 ++ entry 0 9 9 9 9) 5 ≡ some (Entry.reading 67305985))
    × (entry_at (entry 1 255 255 127 127) 0 ≡ some (Entry.reading 2139095039))
    × (entry_at (entry 1 255 255 127 255) 0 ≡ some (Entry.reading 4286578687))
    × (entry_at (entry 0 1 0 192 127) 0 ≡ some Entry.missing)
    × (entry_at (entry 0 0 0 0 0) 0 ≡ some Entry.missing)
    × (entry_at (entry 1 0 0 128 127) 0 ≡ none)
    × (entry_at (entry 1 0 0 128 255) 0 ≡ none)
    × (entry_at (entry 1 1 0 192 127) 0 ≡ none)
    × (entry_at (entry 1 1 0 128 127) 0 ≡ none)
    × (entry_at (entry 1 1 0 192 255) 0 ≡ none)
    × (entry_at (entry 2 0 0 128 63) 0 ≡ none)
    × (entry_at (entry 255 0 0 128 63) 0 ≡ none)
    × (entry_at (1 ∷ 0 ∷ 0 ∷ 128 ∷ []) 0 ≡ none)
    × (entry_at (0 ∷ 0 ∷ 0 ∷ 0 ∷ []) 0 ≡ none)
    × (entry_at (entry 1 0 0 128 63) 1 ≡ none)
    × (entry_at (entry 1 0 0 128 63) 5 ≡ none)
unfolding entry_at number
entry_cases = (refl, refl, refl, refl, refl, refl, refl, refl, refl, refl, refl, refl, refl, refl, refl, refl, refl)

-- A reading between the ends or on one is inside, one beyond them outside, and a missing one is missing beside any ends.
pub standing_cases :
    (standing_of (record { low = pos 4096; high = pos 4096 }) (Entry.reading 1065353216) ≡ Standing.inside)
    × (standing_of (record { low = pos 0; high = pos 5000 }) (Entry.reading 1065353216) ≡ Standing.inside)
    × (standing_of (record { low = pos 4097; high = pos 5000 }) (Entry.reading 1065353216) ≡ Standing.outside)
    × (standing_of (record { low = pos 0; high = pos 4095 }) (Entry.reading 1065353216) ≡ Standing.outside)
    × (standing_of (record { low = pos 1; high = pos 0 }) Entry.missing ≡ Standing.missing)
unfolding standing_of is_inside
standing_cases = (refl, refl, refl, refl, refl)

-- ---- runs
-- document 01's listing: a start set, a step, a check, a tied sum
abbrev listed : List ℕ
listed = beginning ++ checked below ++ (5 ∷ body)

-- a start set of two coordinates, around -4096 with the radius 0 and 8192 with 4096
abbrev started : List ℕ
started = field 1 ((2 ∷ 0 ∷ 0 ∷ 0 ∷ []) ++ words (negsuc 4095 ∷ pos 8192 ∷ pos 0 ∷ pos 4096 ∷ []))

-- a run that is refused after its first field, and one that has a good field after that
abbrev refused : List ℕ
refused = (1 ∷ body) ++ (255 ∷ [])

abbrev refused_before : List ℕ
refused_before = (1 ∷ body) ++ field 255 [] ++ (5 ∷ body)

-- The check asks for no entry, nor do a refused field and those after it; coordinates are asked for in their order.
pub asked_cases :
    (asked listed
    ≡ record { low = negsuc 4095; high = pos 4096 }
    ∷ record { low = negsuc 4095; high = pos 8192 }
    ∷ record { low = pos 0; high = pos 4096 }
    ∷ [])
    × (asked started ≡ record { low = negsuc 4095; high = negsuc 4095 } ∷ record { low = pos 4096; high = pos 12288 } ∷ [])
    × (asked refused ≡ record { low = negsuc 4095; high = pos 4096 } ∷ [])
    × (asked refused_before ≡ record { low = negsuc 4095; high = pos 4096 } ∷ [])
    × (asked [] ≡ [])
unfolding asked_from asked_of paired outcome after with_folds folds causes first_of misplaced cut kind_of fields fields_within meaning number
    word long given_set given_step given_halfspaces bad_range bad_order is_too_wide span term_sizes generator_sizes radius_of rises order sum_by upto_by
    tab any all step rounded raw raw_centre raw_linear raw_square raw_pair pairs remainder inexact_at carried_at rounded_at dot bilinear round
    exact inexact independent_sum tied_sum renumbered joined union insert_identifier align finish drop_unused fold_generators fold_terms fold_high
    drop_zero_generators drop_zero_terms collect_terms insert collect_into those fold_all fold_vector shift growth fold_times fold_smallest smallest
    size keep_at longer even half half_size box low_end high_end least greatest low_along safe
asked_cases = (refl, refl, refl, refl, refl)

-- ---- whole logs
-- 1, -1, 2 and the floats next to 1, to 2 and, from below, to 0
abbrev one : List ℕ
one = entry 1 0 0 128 63

abbrev minus_one : List ℕ
minus_one = entry 1 0 0 128 191

abbrev two : List ℕ
two = entry 1 0 0 0 64

abbrev above_one : List ℕ
above_one = entry 1 1 0 128 63

abbrev above_two : List ℕ
above_two = entry 1 1 0 0 64

abbrev below_zero : List ℕ
below_zero = entry 1 1 0 0 128

-- no reading, beside the bytes of a NaN; what is no entry: another first byte, an infinity, a NaN
abbrev no_reading : List ℕ
no_reading = entry 0 1 0 192 127

abbrev strange : List ℕ
strange = entry 2 0 0 128 63

abbrev infinite : List ℕ
infinite = entry 1 0 0 128 127

abbrev not_a_number : List ℕ
not_a_number = entry 1 1 0 192 127

-- what is printed, by the ends that a run asks for
by_ends : (log input : List ℕ) {es : List Ends} → asked input ≡ es → held log input ≡ text_of (judged_from log 0 es)
unfolding held
by_ends log input e = ap (λ es. text_of (judged_from log 0 es)) e

-- A line for each of the listing's three boxes, then how many are inside, outside and missing; for both coordinates of a field; for a run
-- that is refused after its first field; for an empty run file.
pub log_cases :
    (held (one ++ above_two ++ no_reading) listed ≡ bytes "inside\noutside\nmissing\n1 1 1\n")
    × (held (minus_one ++ two ++ one) listed ≡ bytes "inside\ninside\ninside\n3 0 0\n")
    × (held (above_one ++ no_reading ++ below_zero) listed ≡ bytes "outside\nmissing\noutside\n0 2 1\n")
    × (held (minus_one ++ one) started ≡ bytes "inside\ninside\n2 0 0\n")
    × (held (one ++ minus_one) started ≡ bytes "outside\noutside\n0 2 0\n")
    × (held one refused ≡ bytes "inside\n1 0 0\n")
    × (held no_reading refused_before ≡ bytes "missing\n0 0 1\n")
    × (held [] [] ≡ bytes "0 0 0\n")
unfolding text_of standing_lines standing_line counts_line following decimal decimal_within ascii bytes judged_from entry_at number standing_of
    is_inside counts_of counted
log_cases = (
  by_ends _ _ asked_cases.0,
  by_ends _ _ asked_cases.0,
  by_ends _ _ asked_cases.0,
  by_ends _ _ asked_cases.1,
  by_ends _ _ asked_cases.1,
  by_ends _ _ asked_cases.2,
  by_ends _ _ asked_cases.3,
  by_ends _ _ asked_cases.4,
)

-- Refusals and their positions: a byte and an entry too many; a last entry that is cut short, or not there; an empty log; a second entry
-- that is none; an entry for a refused field; a byte beside an empty run file.
pub refused_cases :
    (held (one ++ above_two ++ no_reading ++ (0 ∷ [])) listed ≡ bytes "inside\noutside\nmissing\nrefused 15 15\n")
    × (held (one ++ above_two ++ no_reading ++ one) listed ≡ bytes "inside\noutside\nmissing\nrefused 15 15\n")
    × (held (one ++ above_two ++ (0 ∷ 0 ∷ 0 ∷ 0 ∷ [])) listed ≡ bytes "inside\noutside\nrefused 15 10\n")
    × (held (one ++ above_two) listed ≡ bytes "inside\noutside\nrefused 15 10\n")
    × (held [] listed ≡ bytes "refused 15 0\n")
    × (held (one ++ strange ++ one) listed ≡ bytes "inside\nrefused 15 5\n")
    × (held (one ++ infinite ++ one) listed ≡ bytes "inside\nrefused 15 5\n")
    × (held (one ++ not_a_number ++ one) listed ≡ bytes "inside\nrefused 15 5\n")
    × (held (one ++ one) refused ≡ bytes "inside\nrefused 15 5\n")
    × (held [] refused ≡ bytes "refused 15 0\n")
    × (held (0 ∷ []) [] ≡ bytes "refused 15 0\n")
unfolding text_of standing_lines standing_line refused_line following decimal decimal_within ascii bytes judged_from entry_at number standing_of
    is_inside
refused_cases = (
  by_ends _ _ asked_cases.0,
  by_ends _ _ asked_cases.0,
  by_ends _ _ asked_cases.0,
  by_ends _ _ asked_cases.0,
  by_ends _ _ asked_cases.0,
  by_ends _ _ asked_cases.0,
  by_ends _ _ asked_cases.0,
  by_ends _ _ asked_cases.0,
  by_ends _ _ asked_cases.2,
  by_ends _ _ asked_cases.2,
  by_ends _ _ asked_cases.4,
)

-- ---- which entry the claim `Ruled` speaks of
-- a second field of two coordinates, a disturbance
abbrev disturbed : List ℕ
disturbed = started ++ field 3 ((2 ∷ []) ++ words (pos 0 ∷ pos 1 ∷ []))

-- In the listing the fields 0, 1 and 3 have the entries 0, 1 and 2; in two coordinates field 0 has 0 and 1, field 1 has 2 and 3; the third
-- line that `log_cases` has of the listing is one of which the claim speaks.
pub numbered_cases :
    (accepted_fields listed ≡ 4)
    × (coordinates listed 3 ≡ 1)
    × (entry_of listed 0 0 ≡ 0)
    × (entry_of listed 1 0 ≡ 1)
    × (entry_of listed 3 0 ≡ 2)
    × (coordinates disturbed 1 ≡ 2)
    × (entry_of disturbed 0 0 ≡ 0)
    × (entry_of disturbed 0 1 ≡ 1)
    × (entry_of disturbed 1 0 ≡ 2)
    × (entry_of disturbed 1 1 ≡ 3)
    × (entry_at (above_one ++ no_reading ++ below_zero) 10 ≡ some (Entry.reading 2147483649))
    × (line_bytes (bytes "outside\nmissing\noutside\n0 2 1\n") 2 ≡ bytes "outside")
    × (line_ends (bytes "outside\nmissing\noutside\n0 2 1\n") ≡ 4)
unfolding accepted_from accepted coordinates_from coordinates_after entries_from entry_at bytes parts onto
    outcome after with_folds folds causes first_of misplaced cut kind_of fields fields_within meaning number
    word long given_set given_step given_halfspaces bad_range bad_order is_too_wide span term_sizes generator_sizes radius_of rises order sum_by upto_by
    tab any all step rounded raw raw_centre raw_linear raw_square raw_pair pairs remainder inexact_at carried_at rounded_at dot bilinear round
    exact inexact independent_sum tied_sum renumbered joined union insert_identifier align finish drop_unused fold_generators fold_terms fold_high
    drop_zero_generators drop_zero_terms collect_terms insert collect_into those fold_all fold_vector shift growth fold_times fold_smallest smallest
    size keep_at longer even half half_size box low_end high_end least greatest low_along safe
numbered_cases = (refl, refl, refl, refl, refl, refl, refl, refl, refl, refl, refl, refl, refl)
