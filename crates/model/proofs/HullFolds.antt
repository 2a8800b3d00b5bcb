-- A hull that folds, computed from its bytes: 53 terms, of which the 40 largest by the weights 4, 1, 4, 1, 4, 1 stay.
use mathlib.Core.Path.{◌≡◌, refl}
use mathlib.Core.List.{List, [], ◌∷◌, ◌++◌}
use mathlib.Core.Bool.{cond}
use Prim.Native.Nat.{ℕ, zero, suc, ◌/◌, ◌%◌}
use lib.Dec.{eqb}
use lib.IntN.{ℤ, pos}
use Rattle.whole.specs.Half.{half, half_size}
use Rattle.whole.specs.Round.{round, exact, inexact}
use Rattle.whole.specs.Sum.{sum_by, upto_by}
use Rattle.whole.specs.Tab.{tab, any, all}
use Rattle.rational.specs.Power.{even}
use Rattle.model.specs.Set.{Term, Zonotope, term_sizes, generator_sizes, span, longer, radius_of}
use Rattle.model.specs.Valid.{order, rises, bad_range, bad_order, is_too_wide}
use Rattle.model.specs.Finish.{insert, collect_into, those, shift, growth, fold_vector, fold_all, size, smallest, fold_smallest}
use Rattle.model.specs.Finish.{fold_times, keep_at, collect_terms, drop_zero_terms, drop_zero_generators, fold_high, fold_terms}
use Rattle.model.specs.Finish.{fold_generators, drop_unused, finish}
use Rattle.model.specs.Step.{inexact_at, carried_at, rounded_at, rounded}
use Rattle.model.specs.Operations.{insert_identifier, union, align, joined}
use Rattle.model.specs.Hull.{opposite, blended, hull}
use Rattle.model.specs.Bytes.{number, word}
use Rattle.model.specs.Body.{given_set}
use Rattle.model.specs.Field.{meaning}
use Rattle.model.specs.Run.{begin, current, kind_of, first_of, misplaced, cut, causes, after, fields, fields_within, run}
use Rattle.model.proofs.Written.{bytes, words, field}

-- ---- the fields
-- six numbers, all but the one at place i of them 0
abbrev only : ℕ → ℕ → List ℤ
only i x = tab 6 (λ j. cond (eqb i j) (pos x) (pos 0))

-- x·α^k in the coordinate at place i
abbrev power : ℕ → ℕ → ℕ → List ℕ
power k i x = k ∷ words (only i x)

-- a number that weighs 24 where it is halved: 12 where the weight is 4, 48 where it is 1
abbrev large : ℕ → ℕ
large i = cond (eqb (i % 2) 0) 12 48

-- such powers, n of them from the k-th on, in one coordinate after the other
abbrev largest : ℕ → ℕ → List ℕ
largest k zero = []
largest k (suc n) = power k (k % 6) (large (k % 6)) ++ largest (suc k) n

-- centre (2, 0, 0, 0, 0, 0); in each coordinate a power that weighs less than 24 where it is halved, and 20 that weigh 24
abbrev started : List ℕ
started = field 1 ((6 ∷ 1 ∷ 26 ∷ 0 ∷ []) ++ bytes 4 1 ++ words (only 0 2)
    ++ power 1 0 10 ++ power 2 1 46 ++ power 3 3 46 ++ power 4 2 10 ++ power 5 4 10 ++ power 6 5 44 ++ largest 7 20
    ++ words (only 0 0))

-- the hull with the point 0
abbrev hulled : List ℕ
hulled = field 8 ((6 ∷ 0 ∷ 0 ∷ 0 ∷ []) ++ words (only 0 0) ++ words (only 0 0))

-- ---- what is left
-- half of each large power, and that with the blending factor v
abbrev kept : ℕ → ℕ → List Term
kept k zero = []
kept k (suc n) =
    let g = only (k % 6) (large (k % 6) / 2) in
    record { exponents = k ∷ 0 ∷ []; coefficients = g } ∷ record { exponents = k ∷ 1 ∷ []; coefficients = g } ∷ kept (suc k) n

abbrev left : Zonotope
left = current (run (fields (started ++ hulled)) begin)

-- the centre is (1, 0, 0, 0, 0, 0) before folding. Folded are v in the first coordinate, and of the small halves g·α^k and g·α^k·v: an even
-- one moves the centre by g/2 and adds half of |g|, rounded up, the others add |g|. So 1 + 5 + 5, 12 + 23, 3 + 5, 23 + 23, 5 + 5, 11 + 22
pub hull-folds :
    (left.terms ≡ kept 7 20)
    × (left.centre ≡ pos 1 ∷ pos 11 ∷ pos 2 ∷ pos 0 ∷ pos 0 ∷ pos 11 ∷ [])
    × (left.radii.folded ≡ 11 ∷ 35 ∷ 8 ∷ 46 ∷ 10 ∷ 33 ∷ [])
unfolding after run causes first_of misplaced cut kind_of fields fields_within meaning number word given_set bad_range
    bad_order is_too_wide span term_sizes generator_sizes radius_of rises order sum_by upto_by tab any all hull blended opposite rounded inexact_at
    carried_at rounded_at round exact inexact joined union insert_identifier align finish drop_unused fold_generators fold_terms fold_high
    drop_zero_generators drop_zero_terms collect_terms insert collect_into those fold_all fold_vector shift growth fold_times fold_smallest
    smallest size keep_at longer even half half_size
hull-folds = (refl, refl, refl)
