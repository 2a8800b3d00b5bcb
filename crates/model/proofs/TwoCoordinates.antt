-- A run in two coordinates with two factors, computed from its bytes: tags 1 to 7, a reduction that the weights decide, a verdict that
-- the second halfspace decides, and a second start set, which is refused.
use mathlib.Core.Path.{◌≡◌, refl}
use mathlib.Core.List.{List, [], ◌∷◌, ◌++◌}
use mathlib.Core.Bool.{true}
use mathlib.Core.Option.{some}
use Prim.Native.Nat.{ℕ}
use lib.IntN.{ℤ, pos, negsuc}
use Rattle.whole.specs.Half.{half, half_size}
use Rattle.whole.specs.Round.{round, exact, inexact}
use Rattle.whole.specs.Sum.{sum_by, upto_by}
use Rattle.whole.specs.Tab.{tab, any, all}
use Rattle.rational.specs.Power.{even}
use Rattle.model.specs.Set.{Term, term_sizes, generator_sizes, span, longer, radius_of}
use Rattle.model.specs.Valid.{order, rises, bad_range, bad_order, is_too_wide}
use Rattle.model.specs.Finish.{insert, collect_into, those, shift, growth, fold_vector, fold_all, size, smallest, fold_smallest, folds}
use Rattle.model.specs.Finish.{fold_times, keep_at, collect_terms, drop_zero_terms, drop_zero_generators, fold_high, fold_terms}
use Rattle.model.specs.Finish.{fold_generators, drop_unused, finish}
use Rattle.model.specs.Step.{dot, bilinear, raw_centre, raw_linear, raw_square, raw_pair, pairs, remainder, raw, inexact_at}
use Rattle.model.specs.Step.{carried_at, rounded_at, rounded, step}
use Rattle.model.specs.Operations.{insert_identifier, union, align, joined, tied_sum, renumbered, independent_sum, least, greatest}
use Rattle.model.specs.Operations.{low_end}
use Rattle.model.specs.Operations.{high_end, box, low_along, safe, disturb, reduce}
use Rattle.model.specs.Bytes.{number, word, long}
use Rattle.model.specs.Body.{given_set, given_step, given_halfspaces, given_radii}
use Rattle.model.specs.Field.{Outcome, inside, verdict, refused, meaning}
use Rattle.model.specs.Run.{Answer, State, begin, kind_of, first_of, misplaced, cut, causes, after, outcome, answers, fields, with_folds}
use Rattle.model.specs.Run.{fields_within, run}
use Rattle.model.proofs.Written.{bytes, signed, words, field}

-- two numbers
abbrev two : {A : Type 0} → A → A → List A
two a b = a ∷ b ∷ []

-- ---- the fields
-- centre (100, -50), terms (5, 3)·β, (40, -2)·α, (-7, 9)·α²β² with α 3 and β 7, generator (6, 1), radii 1 and 2
abbrev started : List ℕ
started = field 1 ((2 ∷ 2 ∷ 3 ∷ 1 ∷ []) ++ bytes 4 3 ++ bytes 4 7 ++ words (two (pos 100) (negsuc 49))
    ++ two 0 1 ++ words (two (pos 5) (pos 3)) ++ two 1 0 ++ words (two (pos 40) (negsuc 1)) ++ two 2 2 ++ words (two (negsuc 6) (pos 9))
    ++ words (two (pos 6) (pos 1)) ++ words (two (pos 1) (pos 2)))

-- c (10, -20), A and both forms of Q by rows
abbrev stepped : List ℕ
stepped = field 2 (two 2 2 ++ words (two (pos 10) (negsuc 19)) ++ words (two (pos 4096) (pos 1024)) ++ words (two (negsuc 2047) (pos 4096))
    ++ words (two (pos 4096) (pos 0)) ++ words (two (pos 3) (pos 0)) ++ words (two (pos 0) (pos 1)) ++ words (two (negsuc 4095) (pos 0)))

-- radii 0 and 3
abbrev disturbed : List ℕ
disturbed = field 3 ((2 ∷ []) ++ words (two (pos 0) (pos 3)))

-- centre (1, 1) and (5, 1)·γ, γ with the file's identifier 3, in an independent sum
abbrev summed : List ℕ
summed = field 4 ((2 ∷ 1 ∷ 1 ∷ 0 ∷ []) ++ bytes 4 3 ++ words (two (pos 1) (pos 1)) ++ (1 ∷ []) ++ words (two (pos 5) (pos 1))
    ++ words (two (pos 0) (pos 0)))

-- (-5, 4)·β, generator (2, 2), radii 0 and 1, in a tied sum
abbrev tied : List ℕ
tied = field 5 ((2 ∷ 1 ∷ 1 ∷ 1 ∷ []) ++ bytes 4 7 ++ words (two (pos 0) (pos 0)) ++ (1 ∷ []) ++ words (two (negsuc 4) (pos 4))
    ++ words (two (pos 2) (pos 2)) ++ words (two (pos 0) (pos 1)))

-- to three terms and one generator
abbrev reduced : List ℕ
reduced = field 6 (two 3 1)

-- x₁ ≤ 2^40 and -4096·x₂ ≤ 229,375: the second halfspace alone is apart
abbrev checked : List ℕ
checked = field 7 (two 2 2 ++ words (two (pos 1) (pos 0)) ++ signed 8 (pos 1099511627776) ++ words (two (pos 0) (negsuc 4095))
    ++ signed 8 (pos 229375))

-- a second start set, at byte 264
abbrev again : List ℕ
again = field 1 ((2 ∷ 0 ∷ 0 ∷ 0 ∷ []) ++ words (two (pos 0) (pos 0)) ++ words (two (pos 0) (pos 0)))

abbrev input : List ℕ
input = started ++ stepped ++ disturbed ++ summed ++ tied ++ reduced ++ checked ++ again

-- ---- the answers, and the state that is left
abbrev boxed : ℕ → ℤ → ℤ → ℤ → ℤ → Answer
boxed n low₁ high₁ low₂ high₂ = record { field = n; outcome = inside (record { lows = two low₁ low₂; highs = two high₁ high₂ }) }

abbrev said : ℕ → Outcome → Answer
said n o = record { field = n; outcome = o }

abbrev term : List ℕ → ℤ → ℤ → Term
term e g h = record { exponents = e; coefficients = two g h }

-- S of the step is 1.7 and 2.5 units, and 11 of its roundings at each coordinate are inexact; the reduction folds (1, 4)·β and the
-- generator (2, 2); the disturbance and the tied sum give 3 and 1
abbrev left : State
left = record {
  set = some (record {
    dimension = 2;
    identifiers = 3 ∷ 7 ∷ 65536 ∷ [];
    centre = two (pos 101) (negsuc 117);
    terms = term (0 ∷ 0 ∷ 1 ∷ []) (pos 5) (pos 1) ∷ term (1 ∷ 0 ∷ 0 ∷ []) (pos 41) (negsuc 20) ∷ term (2 ∷ 2 ∷ 0 ∷ []) (negsuc 4) (pos
        12) ∷ [];
    generators = two (pos 7) (negsuc 1) ∷ [];
    radii = record { carried = two 2 3; rounded = two 6 6; folded = two 3 6; given = two 0 4 };
  });
  next = 65537;
  count = 7;
  over = true;
  folded = 3 ∷ 6 ∷ 0 ∷ 0 ∷ 0 ∷ 0 ∷ [];
}

pub two-coordinates :
    (answers 0 begin (fields input)
    ≡ boxed 0 (pos 41) (pos 152) (negsuc 57) (negsuc 32)
    ∷ boxed 1 (pos 33) (pos 162) (negsuc 150) (negsuc 74)
    ∷ boxed 2 (pos 33) (pos 162) (negsuc 153) (negsuc 71)
    ∷ boxed 3 (pos 29) (pos 168) (negsuc 153) (negsuc 69)
    ∷ boxed 4 (pos 32) (pos 165) (negsuc 160) (negsuc 62)
    ∷ boxed 5 (pos 32) (pos 165) (negsuc 160) (negsuc 62)
    ∷ said 6 (verdict true)
    ∷ said 7 (refused 2 264)
    ∷ [])
    × (run (fields input) begin ≡ left)
unfolding answers outcome after with_folds folds run causes first_of misplaced cut kind_of fields fields_within meaning number word long
    given_set given_step given_halfspaces given_radii bad_range bad_order is_too_wide span term_sizes generator_sizes radius_of rises order sum_by
    upto_by tab any all step rounded raw raw_centre raw_linear raw_square raw_pair pairs remainder inexact_at carried_at rounded_at dot bilinear
    round exact inexact independent_sum tied_sum renumbered joined union insert_identifier align disturb reduce finish drop_unused
    fold_generators fold_terms fold_high drop_zero_generators drop_zero_terms collect_terms insert collect_into those fold_all fold_vector shift
    growth fold_times fold_smallest smallest size keep_at longer even half half_size box low_end high_end least greatest low_along safe
two-coordinates = (refl, refl)
