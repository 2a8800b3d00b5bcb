-- The fault that tore four drivers: where the next identifier does not rise, two independent sums share a factor, and the claim of demand 3
-- is false. A start set 4096·α, an independent sum with 4096·α and one with -4096·α: the last two cancel, and a motion at 12,288 is left
-- outside the box -4096 .. 4096.
use native.Mathlib.Omega.{arith}
use mathlib.Core.Path.{◌≡◌, refl, ◌∙◌, ap₂, subst}
use mathlib.Core.List.{List, [], ◌∷◌, ◌++◌}
use Prim.Native.Nat.{ℕ, zero, suc, ◌<◌}
use lib.Dec.{T, lit<}
use lib.ListN.{get_or}
use lib.IntN.{ℤ, pos, negsuc}
use Rattle.whole.specs.Half.{half, half_size}
use Rattle.whole.specs.Sum.{sum_by, upto_by}
use Rattle.whole.specs.Tab.{tab, any, all}
use Rattle.rational.specs.Rational.{ℚ, ◌+ℚ◌, ◌*ℚ◌, neg_ℚ, ι, 0ℚ, 1ℚ, ◌≤ℚ◌}
use Rattle.rational.proofs.Ring.{+ℚ-zero, zero-+ℚ, *ℚ-one, *ℚ-neg_ℚ}
use Rattle.rational.proofs.Pinned.{ι-+, ι-neg, ι-≤}
use Rattle.rational.proofs.Sign.{NonNeg-ι}
use Rattle.rational.proofs.Order.{NonNeg-≤}
use Rattle.rational.specs.Bounds.{Within}
use Rattle.rational.proofs.Bounds.{within-one, within-neg, within-NonNeg}
use Rattle.rational.specs.Power.{power, even}
use Rattle.rational.specs.Sum.{sum}
use Rattle.model.specs.Limits.{first_fresh}
use Rattle.model.specs.Set.{term_sizes, generator_sizes, span, longer, radius_of}
use Rattle.model.specs.Valid.{order, rises, bad_range, bad_order, is_too_wide}
use Rattle.model.specs.Finish.{insert, collect_into, those, shift, growth, fold_vector, fold_all, size, smallest, fold_smallest, folds}
use Rattle.model.specs.Finish.{fold_times}
use Rattle.model.specs.Finish.{keep_at, collect_terms, drop_zero_terms, drop_zero_generators, fold_high, fold_terms, fold_generators}
use Rattle.model.specs.Finish.{drop_unused, finish}
use Rattle.model.specs.Operations.{insert_identifier, union, align, joined, tied_sum, renumbered, independent_sum, least, greatest}
use Rattle.model.specs.Operations.{low_end, high_end, box, Box}
use Rattle.model.specs.Bytes.{number, word}
use Rattle.model.specs.Body.{given_set}
use Rattle.model.specs.Field.{ranged_step, meaning, inside}
use Rattle.model.specs.Run.{tag, kind_of, first_of, misplaced, cut, causes, accepted, after, outcome, with_folds}
use Rattle.model.specs.Points.{monomial, terms_at, generators_at, value_at}
use Rattle.model.specs.Motion.{Picks, Allowed, Moment, beginning, move, follow, Kept}

-- ---- the old edition: every field is given the next identifier with which the run began
abbrev forgotten : Moment → Moment
forgotten now = record {
  state = record {
    set = now.state.set;
    next = first_fresh;
    count = now.state.count;
    over = now.state.over;
    folded = now.state.folded;
  };
  mark = now.mark;
  values = now.values;
  position = now.position;
}

abbrev pub OldAlways : Picks → ℕ → Moment → List (List ℕ) → Type 0
OldAlways p m now [] = Unit {0}
OldAlways p m now (f ∷ fs) =
    (T (accepted (forgotten now).state f) → Kept (forgotten now).state f (follow p m (forgotten now) f))
    × OldAlways p (suc m) (follow p m (forgotten now) f) fs

-- ---- the run: tag, length 21, n = p = h = 1, q = 0, identifier 1, centre 0, exponent 1, coefficient, radius 0
abbrev field : ℕ → List ℕ → List ℕ
field tag g = tag ∷ 21 ∷ 0 ∷ 1 ∷ 1 ∷ 1 ∷ 0 ∷ 1 ∷ 0 ∷ 0 ∷ 0 ∷ 0 ∷ 0 ∷ 0 ∷ 0 ∷ 1 ∷ (g ++ (0 ∷ 0 ∷ 0 ∷ 0 ∷ []))

abbrev plus : List ℕ
plus = 0 ∷ 16 ∷ 0 ∷ 0 ∷ []

abbrev minus : List ℕ
minus = 0 ∷ 240 ∷ 255 ∷ 255 ∷ []

abbrev fields : List (List ℕ)
fields = field 1 plus ∷ field 4 plus ∷ field 4 minus ∷ []

-- ---- the motion: every factor is 1, but -1 in the second sum
abbrev sign : ℕ → ℚ
sign zero = 1ℚ
sign (suc zero) = 1ℚ
sign (suc (suc m)) = neg_ℚ 1ℚ

abbrev picks : Picks
picks = record {
  values = λ k. 1ℚ;
  own = λ m k. sign m;
  numbers = λ m j. 0ℚ;
  offsets = λ m i. 0ℚ;
  blend = λ m. 0ℚ;
  linear = λ m i j. 0ℚ;
  quadratic = λ m i j l. 0ℚ;
}

zero-within : (n : ℕ) → Within 0ℚ (ι (pos n))
zero-within n = within-NonNeg (NonNeg-ι 0) (NonNeg-≤ (NonNeg-ι n))

sign-within : (m : ℕ) → Within (sign m) 1ℚ
sign-within zero = within-one
sign-within (suc zero) = within-one
sign-within (suc (suc m)) = within-neg within-one

-- none of the fields is a ranged step
not-ranged : (m : ℕ) → ¬ (kind_of (tag (get_or fields m [])) ≡ ranged_step)
unfolding kind_of
not-ranged zero e = let z : ◌≡◌ {A = ℕ} 0 1 = cc in omega arith
not-ranged (suc zero) e = let z : ◌≡◌ {A = ℕ} 0 1 = cc in omega arith
not-ranged (suc (suc zero)) e = let z : ◌≡◌ {A = ℕ} 0 1 = cc in omega arith
not-ranged (suc (suc (suc m))) e = let z : ◌≡◌ {A = ℕ} 0 1 = cc in omega arith

allowed : Allowed picks fields
allowed = record {
  values = λ k. within-one;
  own = λ m k. sign-within m;
  numbers = λ m j. zero-within _;
  offsets = λ m i. zero-within _;
  blend = λ m. zero-within _;
  coefficients = λ m e. absurd (not-ranged m e);
}

-- ---- where it is after the three fields, and the box that the old edition answers
abbrev first : Moment
first = follow picks 0 (forgotten (beginning picks)) (field 1 plus)

abbrev second : Moment
second = follow picks 1 (forgotten first) (field 4 plus)

abbrev third : Moment
third = follow picks 2 (forgotten second) (field 4 minus)

abbrev narrow : Box
narrow = record { lows = negsuc 4095 ∷ []; highs = pos 4096 ∷ [] }

-- the body's point for a coefficient g at the factor value v
abbrev body_at : ℤ → ℚ → ℚ
body_at g v = ι (pos 0) +ℚ (ι g *ℚ (v *ℚ 1ℚ *ℚ 1ℚ) +ℚ 0ℚ) +ℚ 0ℚ +ℚ 0ℚ

computed :
    T (accepted (forgotten second).state (field 4 minus))
    × (outcome 0 (forgotten second).state (field 4 minus) ≡ inside narrow)
    × (third.position 0 ≡ body_at (pos 4096) 1ℚ +ℚ body_at (pos 4096) 1ℚ +ℚ body_at (negsuc 4095) (neg_ℚ 1ℚ))
unfolding follow accepted after with_folds folds outcome causes first_of misplaced cut kind_of meaning number word given_set bad_range
    bad_order is_too_wide span term_sizes generator_sizes radius_of rises order sum_by upto_by tab any all independent_sum tied_sum renumbered
    joined union insert_identifier align finish drop_unused fold_generators fold_terms fold_high drop_zero_generators drop_zero_terms
    collect_terms insert collect_into those fold_all fold_vector shift growth fold_times fold_smallest smallest size keep_at longer even half
    half_size box low_end high_end least greatest move value_at terms_at generators_at monomial power sum
computed = (tt, refl, refl)

body-point : (g : ℤ) (v : ℚ) → body_at g v ≡ ι g *ℚ v
body-point g v = simp (+ℚ-zero, zero-+ℚ, *ℚ-one)

position : third.position 0 ≡ ι (pos 12288)
position =
    computed.2
    ∙ ap₂ ◌+ℚ◌ (ap₂ ◌+ℚ◌ (body-point (pos 4096) 1ℚ) (body-point (pos 4096) 1ℚ)) (body-point (negsuc 4095) (neg_ℚ 1ℚ))
    ∙ simp (*ℚ-neg_ℚ, *ℚ-one, ← ι-neg, ← ι-+)

-- the claim fails for the old edition
pub old_edition_loses : ¬ ((fields : List (List ℕ)) (p : Picks) → Allowed p fields → OldAlways p 0 (beginning p) fields)
old_edition_loses claim =
    let kept = (claim fields picks allowed).1.1.0 computed.0 in
    let b = kept.in_box 0 narrow computed.1 in
    let le = subst (◌≤ℚ ι (pos 4096)) position (b.below 0 (subst (0 <◌) b.sides.1 (lit< tt))) in
    ((ι-≤ (pos 12288) (pos 4096)).0 le).le
