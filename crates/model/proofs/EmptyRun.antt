-- Empty disturbances, computed from bytes: 14 among the refusals, and stored files rewritten.
use mathlib.Core.Path.{◌≡◌, refl, ap}
use mathlib.Core.List.{List, [], ◌∷◌, ◌++◌, map}
use mathlib.Core.Bool.{true, false, ◌||◌}
use mathlib.Core.Option.{none, some}
use Prim.Native.Nat.{ℕ}
use lib.ListN.{length}
use lib.Dec.{eqb}
use lib.IntN.{ℤ, pos, negsuc, nat_abs}
use native.Mathlib.Omega.{arith}
use borrow.Author.Tests.{eqb-true}
use Rattle.whole.specs.Sum.{sum_by}
use Rattle.whole.specs.Tab.{tab, any, all}
use Rattle.model.specs.Limits.{first_fresh, max_disturbance}
use Rattle.model.specs.Set.{Zonotope, term_sizes, generator_sizes, span, longer, radius_of, blank, given_only}
use Rattle.model.specs.Valid.{rises, bad_range, bad_order, is_too_wide}
use Rattle.model.specs.Finish.{insert, collect_into, those, fold_all, fold_times, keep_at, collect_terms, drop_zero_terms}
use Rattle.model.specs.Finish.{drop_zero_generators, fold_high, fold_terms, fold_generators, drop_unused, finish, folds}
use Rattle.model.specs.Operations.{disturb, reduce}
use Rattle.model.specs.Bytes.{number, word}
use Rattle.model.specs.Body.{given_set, given_radii, disturbance_words}
use Rattle.model.specs.Described.{within}
use Rattle.model.specs.Field.{disturbance, negative, beyond, all_zero, meaning}
use Rattle.model.proofs.Accepted.{holds_at}
use Rattle.model.proofs.Kind.{laws}
use Rattle.model.specs.Run.{tag, body, current}
use Rattle.model.specs.Run.{State, begin, kind_of, Cause, first_of, misplaced, cut, causes, refusal, with_folds, after, run, fields}
use Rattle.model.specs.Run.{fields_within}
use Rattle.model.specs.Library.{of_radii}
use Rattle.model.specs.Rewrite.{empty_disturbance, others, together, rewritten}
use Rattle.model.specs.OldRun.{old_causes, old_after, old_run, Kept}
use Rattle.model.proofs.Tests.{and_true, false_or}
use Rattle.model.proofs.Written.{words, field}
use Rattle.model.proofs.Kept.{keeps_results}

-- ---- 14
-- a run that has the point 0 in two coordinates
abbrev plane : State
plane = record {
  set = some (record {
    dimension = 2;
    identifiers = [];
    centre = pos 0 ∷ pos 0 ∷ [];
    terms = [];
    generators = [];
    radii = given_only 2 (0 ∷ 0 ∷ []);
  });
  next = first_fresh;
  count = 1;
  over = false;
  folded = blank 6;
}

-- a disturbance with two radii
abbrev disturbed : ℤ → ℤ → List ℕ
disturbed r q = field 3 ((2 ∷ []) ++ words (r ∷ q ∷ []))

-- radii of 0 alone are refused, with the length, the dimension and the range asked before
pub empty_causes :
    (refusal plane (disturbed (pos 0) (pos 0)) ≡ some 14)
    × (refusal plane (disturbed (pos 1) (pos 0)) ≡ none)
    × (refusal plane (disturbed (pos 0) (pos 1)) ≡ none)
    × (refusal plane (disturbed (pos 0) (negsuc 0)) ≡ some 6)
    × (refusal plane (disturbed (pos 1048577) (pos 0)) ≡ some 6)
    × (refusal plane (field 3 ((1 ∷ []) ++ words (pos 0 ∷ []))) ≡ some 5)
    × (refusal plane (field 3 ((2 ∷ []) ++ words (pos 0 ∷ []))) ≡ some 3)
    × (refusal begin (disturbed (pos 0) (pos 0)) ≡ some 2)
unfolding causes first_of misplaced cut kind_of meaning number word given_radii disturb longer is_too_wide span term_sizes generator_sizes
    radius_of sum_by tab any all
empty_causes = (refl, refl, refl, refl, refl, refl, refl, refl)

-- the order in which a run asks
pub order_of-causes : (st : State) (f : List ℕ)
    → within (map (λ (c : Cause). c.number) (causes st f)) (12 ∷ 2 ∷ 1 ∷ 3 ∷ 4 ∷ 3 ∷ 5 ∷ 6 ∷ 14 ∷ 7 ∷ 8 ∷ 9 ∷ 10 ∷ []) ≡ true
unfolding causes within
order_of-causes st f = (laws (kind_of (tag f))).in_order (body f) st.next (current st) (length (body f))

-- and in which a call asks of radii
pub order-of_radii : (n : ℕ) (radii : List ℕ) (dimension : ℕ)
    → map (λ (c : Cause). c.number) (of_radii n radii dimension) ≡ 4 ∷ 3 ∷ 5 ∷ 6 ∷ 14 ∷ []
order-of_radii n radii dimension = refl

-- no disturbance has a radius out of range and only zero radii, so that no answer tells whether 6 or 14 is asked first
in_range : (zs : List ℤ) → all_zero (map nat_abs zs) ≡ true → any (λ z. negative z || beyond max_disturbance z) zs ≡ false
unfolding any all
in_range [] e = refl
in_range (pos n ∷ zs) e =
    let h = and_true (eqb n 0) (all_zero (map nat_abs zs)) e in
    false_or (ap (λ k. negative (pos k) || beyond max_disturbance (pos k)) (eqb-true n 0 h.0)) (in_range zs h.1)
in_range (negsuc n ∷ zs) e =
    let h = and_true (eqb (nat_abs (negsuc n)) 0) (all_zero (map nat_abs zs)) e in
    absurd (omega (arith, eqb-true (nat_abs (negsuc n)) 0 h.0))

pub never_both : (b : List ℕ) (next : ℕ) (s : Zonotope) → (bytes : ℕ)
    → (let cs = (meaning disturbance b next s).causes bytes in holds_at 14 cs ≡ true → holds_at 6 cs ≡ false)
unfolding meaning given_radii holds_at
never_both b next s bytes e = in_range (disturbance_words b) e

-- ---- rewritten files
-- the point 0, and a reduction that leaves it
abbrev started : List ℕ
started = field 1 ((2 ∷ 0 ∷ 0 ∷ 0 ∷ []) ++ words (pos 0 ∷ pos 0 ∷ pos 0 ∷ pos 0 ∷ []))

abbrev reduced : List ℕ
reduced = field 6 (40 ∷ 24 ∷ [])

-- a stored file that was accepted: the first empty disturbance is refused now, and without both none is
abbrev stored : List ℕ
stored = started ++ disturbed (pos 0) (pos 0) ++ disturbed (pos 0) (pos 1) ++ disturbed (pos 0) (pos 0) ++ reduced

pub stored_file :
    ((old_run (fields stored) begin).over ≡ false)
    × ((run (fields stored) begin).over ≡ true)
    × ((run (fields stored) begin).count ≡ 1)
    × (rewritten stored ≡ started ++ disturbed (pos 0) (pos 1) ++ reduced)
    × ((run (fields (started ++ disturbed (pos 0) (pos 1) ++ reduced)) begin).over ≡ false)
unfolding fields fields_within run old_run after old_after with_folds folds causes old_causes first_of misplaced cut kind_of meaning number word
    given_set given_radii bad_range bad_order rises disturb reduce finish drop_unused fold_generators fold_terms fold_high drop_zero_generators
    drop_zero_terms collect_terms insert collect_into those fold_all fold_times keep_at longer is_too_wide span term_sizes generator_sizes radius_of
    sum_by tab any all empty_disturbance others together rewritten
stored_file = (refl, refl, refl, refl, refl)

-- so what is claimed of rewritten files holds of it
pub stored-kept : Kept stored
stored-kept = keeps_results stored stored_file.0

-- a damaged file: no start set; a byte too many; no radius and seven; an unknown tag; a last field that lacks a byte
abbrev longer_body : List ℕ
longer_body = field 3 ((1 ∷ []) ++ words (pos 0 ∷ []) ++ (0 ∷ []))

abbrev damaged : List ℕ → List ℕ
damaged gone =
    gone ++ longer_body ++ gone ++ field 3 (0 ∷ []) ++ field 3 ((7 ∷ []) ++ words (tab 7 (λ i. pos 0))) ++ gone
    ++ field 200 (3 ∷ 5 ∷ 0 ∷ 1 ∷ []) ++ gone ++ (3 ∷ 5 ∷ 0 ∷ 1 ∷ 0 ∷ 0 ∷ 0 ∷ [])

-- a field that announces a byte more than there is
abbrev unfinished : List ℕ
unfinished = 3 ∷ 6 ∷ 0 ∷ 1 ∷ 0 ∷ 0 ∷ 0 ∷ 0 ∷ []

pub damaged_file :
    (rewritten (damaged (disturbed (pos 0) (pos 0))) ≡ damaged []) × (rewritten unfinished ≡ unfinished) × (rewritten [] ≡ [])
unfolding fields fields_within cut number word given_radii tab all empty_disturbance others together rewritten
damaged_file = (refl, refl, refl)
