-- The longest run: 4,096 fields after the start set are accepted, and one more is refused with 12, whatever it holds. What is claimed of
-- rewritten files holds of up to as many empty disturbances.
use mathlib.Core.Path.{◌≡◌, refl, ◌∙◌, ap}
use mathlib.Core.List.{List, [], ◌∷◌}
use mathlib.Core.Bool.{false}
use mathlib.Core.Option.{some}
use Prim.Native.Nat.{ℕ, zero, suc, ◌+◌, ◌≤◌}
use native.Mathlib.Nat.{add-zero}
use native.Mathlib.Omega.{arith}
use borrow.Author.Tests.{le-ltb}
use lib.ListN.{replicate}
use lib.IntN.{pos}
use Rattle.whole.specs.Sum.{sum_by}
use Rattle.whole.specs.Tab.{tab, any, all}
use Rattle.model.specs.Limits.{first_fresh, last_field}
use Rattle.model.specs.Set.{Zonotope, term_sizes, generator_sizes, span, longer, radius_of, blank, given_only}
use Rattle.model.specs.Valid.{rises, bad_range, bad_order, is_too_wide}
use Rattle.model.specs.Operations.{disturb, reduce}
use Rattle.model.specs.Bytes.{number, word}
use Rattle.model.specs.Body.{given_set, given_radii}
use Rattle.model.specs.Field.{meaning}
use Rattle.model.specs.Finish.{insert, collect_into, those, fold_all, fold_times, keep_at, collect_terms, drop_zero_terms}
use Rattle.model.specs.Finish.{drop_zero_generators, fold_high, fold_terms, fold_generators, drop_unused, finish, folds}
use Rattle.model.specs.Run.{State, begin, first_of, kind_of, misplaced, cut, causes, refusal, after, run, with_folds, fields}
use Rattle.model.specs.Run.{fields_within}
use Rattle.model.specs.Rewrite.{together}
use Rattle.model.specs.OldRun.{old_causes, old_after, old_run, Kept}
use Rattle.model.proofs.Rewritten.{fields_of, whole-first}
use Rattle.model.proofs.Kept.{keeps_results}

-- the point 0 in one coordinate, as a start set and as a set
abbrev started : List ℕ
started = 1 ∷ 12 ∷ 0 ∷ 1 ∷ 0 ∷ 0 ∷ 0 ∷ 0 ∷ 0 ∷ 0 ∷ 0 ∷ 0 ∷ 0 ∷ 0 ∷ 0 ∷ []

abbrev origin : Zonotope
origin = record { dimension = 1; identifiers = []; centre = pos 0 ∷ []; terms = []; generators = []; radii = given_only 1 (0 ∷ []) }

-- a reduction to the limits of a set
abbrev unreduced : List ℕ
unreduced = 6 ∷ 2 ∷ 0 ∷ 40 ∷ 24 ∷ []

-- the state after n fields that leave this set
abbrev reached : ℕ → State
reached n = record { set = some origin; next = first_fresh; count = n; over = false; folded = blank 6 }

starts : after begin started ≡ reached 1
unfolding after with_folds folds causes first_of misplaced cut kind_of meaning number word given_set bad_range bad_order is_too_wide span
    term_sizes generator_sizes radius_of rises sum_by tab any all
starts = refl

goes_on : (n : ℕ) → suc n ≤ last_field → after (reached (suc n)) unreduced ≡ reached (suc n + 1)
unfolding after with_folds folds causes first_of misplaced cut kind_of meaning number reduce finish drop_unused fold_generators fold_terms
    fold_high drop_zero_generators drop_zero_terms collect_terms insert collect_into those fold_all fold_times keep_at is_too_wide span term_sizes
    generator_sizes radius_of sum_by tab any all
goes_on n h = rw (le-ltb last_field (suc n) h)

many : (k n : ℕ) → n + k ≤ last_field → run (replicate k unreduced) (reached (suc n)) ≡ reached (suc (n + k))
unfolding run
many zero n h = rw (add-zero n)
many (suc k) n h =
    ap (run (replicate k unreduced)) (goes_on n (omega arith) ∙ ap reached (next n)) ∙ many k (suc n) (omega arith) ∙ ap (λ m. reached
    (suc m)) (step n k)
  where
    next : (n : ℕ) → suc n + 1 ≡ suc (suc n)
    next n = omega arith

    step : (n k : ℕ) → suc n + k ≡ n + suc k
    step n k = omega arith

pub longest_run :
    (run (started ∷ replicate 4096 unreduced) begin ≡ reached 4097) × ((f : List ℕ) → refusal (reached 4097) f ≡ some 12)
unfolding run causes first_of
longest_run = (ap (run (replicate 4096 unreduced)) starts ∙ many 4096 0 (omega arith), λ f. refl)

-- ---- a stored file with empty disturbances alone
-- a disturbance with the radius 0
abbrev undisturbed : List ℕ
undisturbed = 3 ∷ 5 ∷ 0 ∷ 1 ∷ 0 ∷ 0 ∷ 0 ∷ 0 ∷ []

-- n of them after the start set
abbrev stored : ℕ → List (List ℕ)
stored n = started ∷ replicate n undisturbed

old_goes_on : (n : ℕ) → suc n ≤ last_field → old_after (reached (suc n)) undisturbed ≡ reached (suc n + 1)
unfolding old_after with_folds causes old_causes those first_of misplaced cut kind_of meaning number word given_radii disturb longer is_too_wide
    span term_sizes generator_sizes radius_of sum_by tab any all
old_goes_on n h = rw (le-ltb last_field (suc n) h)

old_many : (k n : ℕ) → n + k ≤ last_field → (old_run (replicate k undisturbed) (reached (suc n))).over ≡ false
unfolding old_run
old_many zero n h = refl
old_many (suc k) n h =
    ap (λ s. (old_run (replicate k undisturbed) s).over) (old_goes_on n (omega arith) ∙ ap reached (next n))
    ∙ old_many k (suc n) (omega arith)
  where
    next : (n : ℕ) → suc n + 1 ≡ suc (suc n)
    next n = omega arith

-- its bytes have these fields
repeated : (n : ℕ) → fields_of (together (replicate n undisturbed)) ≡ replicate n undisturbed
unfolding together fields_within number
repeated zero = refl
repeated (suc n) = whole-first undisturbed (together (replicate n undisturbed)) refl ∙ ap (undisturbed ∷◌) (repeated n)

are_stored : (n : ℕ) → fields (together (stored n)) ≡ stored n
unfolding fields together number
are_stored n = whole-first started (together (replicate n undisturbed)) refl ∙ ap (started ∷◌) (repeated n)

old_starts : old_after begin started ≡ reached 1
unfolding old_after with_folds folds causes old_causes those first_of misplaced cut kind_of meaning number word given_set bad_range bad_order
    is_too_wide span term_sizes generator_sizes radius_of rises sum_by tab any all
old_starts = refl

-- What is claimed of rewritten files holds of each that an old run accepted.
pub longest_kept : (n : ℕ) → n ≤ last_field → Kept (together (stored n))
unfolding old_run
longest_kept n h =
    keeps_results (together (stored n)) (ap (λ fs. (old_run fs begin).over) (are_stored n)
    ∙ ap (λ s. (old_run (replicate n undisturbed) s).over) old_starts ∙ old_many n 0 (omega arith))
