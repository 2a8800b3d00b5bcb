-- Runs with hulls, computed from their bytes: halves that are rounded, factors of both sets and of one alone, the larger independent part of
-- each coordinate, a blending factor that vanishes while its number stays taken, and each number that refuses a hull.
use mathlib.Core.Path.{◌≡◌, refl}
use mathlib.Core.List.{List, [], ◌∷◌, ◌++◌}
use mathlib.Core.Bool.{cond, false}
use mathlib.Core.Option.{none, some}
use Prim.Native.Nat.{ℕ, zero, suc}
use lib.Dec.{eqb}
use lib.IntN.{ℤ, pos, negsuc}
use Rattle.whole.specs.Half.{half, half_size}
use Rattle.whole.specs.Round.{round, exact, inexact}
use Rattle.whole.specs.Sum.{sum_by, upto_by}
use Rattle.whole.specs.Tab.{tab, any, all}
use Rattle.rational.specs.Power.{even}
use Rattle.model.specs.Limits.{first_fresh}
use Rattle.model.specs.Set.{Term, term_sizes, generator_sizes, span, longer, radius_of, blank, given_only}
use Rattle.model.specs.Valid.{order, rises, bad_range, bad_order, is_too_wide}
use Rattle.model.specs.Finish.{insert, collect_into, those, shift, growth, fold_vector, fold_all, size, smallest, fold_smallest, folds}
use Rattle.model.specs.Finish.{fold_times, keep_at, collect_terms, drop_zero_terms, drop_zero_generators, fold_high, fold_terms}
use Rattle.model.specs.Finish.{fold_generators, drop_unused, finish}
use Rattle.model.specs.Step.{inexact_at, carried_at, rounded_at, rounded}
use Rattle.model.specs.Operations.{insert_identifier, union, align, joined, tied_sum, renumbered, independent_sum, least, greatest}
use Rattle.model.specs.Operations.{low_end, high_end, box}
use Rattle.model.specs.Hull.{opposite, blended, hull}
use Rattle.model.specs.Bytes.{number, word}
use Rattle.model.specs.Body.{given_set}
use Rattle.model.specs.Field.{inside, meaning}
use Rattle.model.specs.Run.{Answer, State, begin, kind_of, first_of, misplaced, cut, causes, refusal, after, outcome, answers}
use Rattle.model.specs.Run.{fields, with_folds}
use Rattle.model.specs.Run.{fields_within, run}
use Rattle.model.proofs.Written.{bytes, words, field}

-- ---- two coordinates
-- two numbers
abbrev two : {A : Type 0} → A → A → List A
two a b = a ∷ b ∷ []

-- centre (101, -50), terms (5, 3)·β and (40, -2)·α with α 3 and β 7, generator (6, 1), radii 1 and 2
abbrev started : List ℕ
started = field 1 ((2 ∷ 2 ∷ 2 ∷ 1 ∷ []) ++ bytes 4 3 ++ bytes 4 7 ++ words (two (pos 101) (negsuc 49))
    ++ two 0 1 ++ words (two (pos 5) (pos 3)) ++ two 1 0 ++ words (two (pos 40) (negsuc 1))
    ++ words (two (pos 6) (pos 1)) ++ words (two (pos 1) (pos 2)))

-- the hull with centre (100, -49), terms (1, -1)·γ and (7, 4)·α with γ 9, generator (3, 3), radii 2 and 4
abbrev hulled : List ℕ
hulled = field 8 ((2 ∷ 2 ∷ 2 ∷ 1 ∷ []) ++ bytes 4 3 ++ bytes 4 9 ++ words (two (pos 100) (negsuc 48))
    ++ two 0 1 ++ words (two (pos 1) (negsuc 0)) ++ two 1 0 ++ words (two (pos 7) (pos 4))
    ++ words (two (pos 3) (pos 3)) ++ words (two (pos 2) (pos 4)))

abbrev boxed : ℕ → ℤ → ℤ → ℤ → ℤ → Answer
boxed n low₁ high₁ low₂ high₂ = record { field = n; outcome = inside (record { lows = two low₁ low₂; highs = two high₁ high₂ }) }

abbrev term : List ℕ → ℤ → ℤ → Term
term e g h = record { exponents = e; coefficients = two g h }

-- with v the blending factor: 100 + 2β + 2βv + 24α + 16αv ± 11 and -50 + 2β + 2βv + α - 3αv ± 10; γ's halves round to 0. Of the first
-- coordinate 8 halves are rounded and the independent parts are 7 and 5, of the second 6 with 3 and 7
abbrev left : State
left = record {
  set = some (record {
    dimension = 2;
    identifiers = 3 ∷ 7 ∷ 65536 ∷ [];
    centre = two (pos 100) (negsuc 49);
    terms = term (0 ∷ 1 ∷ 0 ∷ []) (pos 2) (pos 2)
        ∷ term (0 ∷ 1 ∷ 1 ∷ []) (pos 2) (pos 2)
        ∷ term (1 ∷ 0 ∷ 0 ∷ []) (pos 24) (pos 1)
        ∷ term (1 ∷ 0 ∷ 1 ∷ []) (pos 16) (negsuc 2)
        ∷ [];
    generators = [];
    radii = record { carried = two 7 7; rounded = two 4 3; folded = two 0 0; given = two 0 0 };
  });
  next = 65537;
  count = 2;
  over = false;
  folded = blank 6;
}

pub two_outcomes :
    (answers 0 begin (fields (started ++ hulled))
    ≡ boxed 0 (pos 49) (pos 153) (negsuc 57) (negsuc 41) ∷ boxed 1 (pos 45) (pos 155) (negsuc 67) (negsuc 31) ∷ [])
    × (run (fields (started ++ hulled)) begin ≡ left)
unfolding answers outcome after with_folds folds run causes first_of misplaced cut kind_of fields fields_within meaning number word given_set
    bad_range bad_order is_too_wide span term_sizes generator_sizes radius_of rises order sum_by upto_by tab any all hull blended opposite rounded
    inexact_at carried_at rounded_at round exact inexact joined union insert_identifier align finish drop_unused fold_generators fold_terms
    fold_high drop_zero_generators drop_zero_terms collect_terms insert collect_into those fold_all fold_vector shift growth fold_times
    fold_smallest smallest size keep_at longer even half half_size box low_end high_end least greatest
two_outcomes = (refl, refl)

-- ---- a hull that changes nothing
-- g·α in one coordinate, α being factor k
abbrev line : ℕ → ℕ → ℤ → List ℕ
line tag k g =
    field tag ((1 ∷ 1 ∷ 1 ∷ 0 ∷ []) ++ bytes 4 k ++ words (pos 0 ∷ []) ++ (1 ∷ []) ++ words (g ∷ []) ++ words (pos 0 ∷ []))

abbrev line_of : ℕ → ℤ → State
line_of next g = record {
  set = some (record {
    dimension = 1;
    identifiers = 1 ∷ [];
    centre = pos 0 ∷ [];
    terms = record { exponents = 1 ∷ []; coefficients = g ∷ [] } ∷ [];
    generators = [];
    radii = given_only 1 (0 ∷ []);
  });
  next = next;
  count = 1;
  over = false;
  folded = blank 6;
}

-- the hull of 4α with itself is 4α again; the blending factor took the number 65,536 all the same: the sum after it gives the next one
pub number-taken :
    run (fields (line 1 1 (pos 4) ++ line 8 1 (pos 4) ++ line 4 1 (pos 1))) begin
    ≡ record {
      set = some (record {
        dimension = 1;
        identifiers = 1 ∷ 65537 ∷ [];
        centre = pos 0 ∷ [];
        terms = record { exponents = 0 ∷ 1 ∷ []; coefficients = pos 1 ∷ [] }
            ∷ record { exponents = 1 ∷ 0 ∷ []; coefficients = pos 4 ∷ [] }
            ∷ [];
        generators = [];
        radii = given_only 1 (0 ∷ []);
      });
      next = 65538;
      count = 3;
      over = false;
      folded = blank 6;
    }
unfolding after with_folds folds run causes first_of misplaced cut kind_of fields fields_within meaning number word given_set bad_range
    bad_order is_too_wide span term_sizes generator_sizes radius_of rises order sum_by upto_by tab any all hull blended opposite rounded inexact_at
    carried_at rounded_at round exact inexact independent_sum tied_sum renumbered joined union insert_identifier align finish drop_unused
    fold_generators fold_terms fold_high drop_zero_generators drop_zero_terms collect_terms insert collect_into those fold_all fold_vector shift
    growth fold_times fold_smallest smallest size keep_at longer even half half_size
number-taken = refl

-- ---- refusals
-- the point 0 in two coordinates
abbrev origin : List ℕ
origin = field 8 ((2 ∷ 0 ∷ 0 ∷ 0 ∷ []) ++ words (two (pos 0) (pos 0)) ++ words (two (pos 0) (pos 0)))

-- n factors from k on and their sum
abbrev factors : ℕ → ℕ → List ℕ
factors p zero = []
factors p (suc n) = tab p (λ j. cond (eqb j n) 1 0) ++ words (pos 1 ∷ []) ++ factors p n

abbrev numbered : ℕ → ℕ → List ℕ
numbered k zero = []
numbered k (suc n) = bytes 4 k ++ numbered (suc k) n

abbrev many : ℕ → ℕ → List ℕ
many k n = field 8 ((1 ∷ n ∷ n ∷ 0 ∷ []) ++ numbered k n ++ words (pos 0 ∷ []) ++ factors n n ++ words (pos 0 ∷ []))

-- 1 cut short, 2 as the first field, 3 and 4 the body's length and counts, 5 dimension, 6 radius, 7 zero term, 8 width, 9 with twelve factors
-- and the blending factor but not with eleven, 10 a span that the rounding of two halves widens beyond the limit
pub hull-causes :
    (refusal (line_of first_fresh (pos 1)) (8 ∷ 1 ∷ 0 ∷ []) ≡ some 1)
    × (refusal begin (line 8 1 (pos 1)) ≡ some 2)
    × (refusal (line_of first_fresh (pos 1)) (field 8 (1 ∷ 0 ∷ 0 ∷ 0 ∷ [])) ≡ some 3)
    × (refusal (line_of first_fresh (pos 1)) (field 8 (1 ∷ 13 ∷ 0 ∷ 0 ∷ [])) ≡ some 4)
    × (refusal (line_of first_fresh (pos 1)) origin ≡ some 5)
    × (refusal (line_of first_fresh (pos 1)) (field 8 ((1 ∷ 0 ∷ 0 ∷ 0 ∷ []) ++ words (pos 0 ∷ negsuc 0 ∷ []))) ≡ some 6)
    × (refusal (line_of first_fresh (pos 1)) (line 8 1 (pos 0)) ≡ some 7)
    × (refusal (line_of first_fresh (pos 1)) (line 8 1 (pos 1048577)) ≡ some 8)
    × (refusal (line_of first_fresh (pos 1)) (many 1 11) ≡ none)
    × (refusal (line_of first_fresh (pos 1)) (many 1 12) ≡ some 9)
    × (refusal (line_of first_fresh (pos 1048576)) (line 8 1 (pos 1048575)) ≡ some 10)
unfolding causes first_of misplaced cut kind_of meaning number word given_set bad_range bad_order is_too_wide span term_sizes generator_sizes
    radius_of rises order sum_by upto_by tab any all hull blended opposite rounded inexact_at carried_at rounded_at round exact inexact joined
    union insert_identifier align finish drop_unused fold_generators fold_terms fold_high drop_zero_generators drop_zero_terms collect_terms
    insert collect_into those fold_all fold_vector shift growth fold_times fold_smallest smallest size keep_at longer even half half_size
hull-causes = (refl, refl, refl, refl, refl, refl, refl, refl, refl, refl, refl)
