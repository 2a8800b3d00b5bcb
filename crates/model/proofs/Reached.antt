-- A motion may go to its limits: the run of specs/Reached.antt, computed from its bytes with the parts of the limits as variables.
use native.Mathlib.Omega.{arith}
use mathlib.Core.Path.{◌≡◌, refl, sym, ap, subst}
use mathlib.Core.List.{List, [], ◌∷◌}
use Prim.Native.Nat.{ℕ, zero, suc, ◌+◌, ◌*◌}
use lib.ListN.{get_or}
use lib.IntN.{pos}
use Rattle.whole.specs.Round.{round, exact, inexact}
use Rattle.whole.specs.Sum.{sum_by, upto_by}
use Rattle.whole.specs.Tab.{tab, any, all}
use Rattle.rational.specs.Rational.{ℚ, ◌+ℚ◌, ◌-ℚ◌, ◌*ℚ◌, ι, ◌over◌, ½, 0ℚ, 1ℚ}
use Rattle.rational.proofs.Ring.{ring, +ℚ-zero, *ℚ-one}
use Rattle.rational.specs.Bounds.{Within}
use Rattle.rational.proofs.Bounds.{within-ι, within-scaled}
use Rattle.rational.specs.Near.{Near}
use Rattle.rational.specs.Power.{power}
use Rattle.rational.specs.Sum.{sum}
use Rattle.model.specs.Set.{term_sizes, generator_sizes, span, longer, radius_of}
use Rattle.model.specs.Valid.{order, rises, bad_range, bad_order, is_too_wide}
use Rattle.model.specs.Finish.{insert, collect_into, those, fold_all, folds, fold_times, keep_at, collect_terms, drop_zero_terms}
use Rattle.model.specs.Finish.{drop_zero_generators, fold_high, fold_terms, fold_generators, drop_unused, finish}
use Rattle.model.specs.Step.{dot, bilinear, raw_centre, raw_linear, raw_square, raw_pair, pairs, remainder, raw, inexact_at}
use Rattle.model.specs.Step.{carried_at, rounded_at, rounded}
use Rattle.model.specs.Operations.{insert_identifier, union, align, joined, tied_sum, renumbered, independent_sum, disturb}
use Rattle.model.specs.Ranged.{gain, gaining_step}
use Rattle.model.specs.Ranged as Ranged
use Rattle.model.specs.Hull.{opposite, blended, hull}
use Rattle.model.specs.Bytes.{number, word}
use Rattle.model.specs.Body.{given_set, given_step, given_widths, given_radii}
use Rattle.model.specs.Field.{ranged_step, meaning, beyond_with}
use Rattle.model.specs.Run.{tag, body, kind_of, first_of, misplaced, cut, causes, accepted, after, with_folds}
use Rattle.model.specs.Points.{monomial, terms_at, generators_at, value_at}
use Rattle.model.specs.Motion.{Picks, InWidths, Allowed, offset_limit, move, with_values, values_after, mark_after, follow, Always}
use Rattle.model.specs.Reached.{six_fields, linear, quadratic, linear_widths, quadratic_widths, entry, pair, radii, Parts, followed}
use Rattle.model.specs.Reached.{picks, x, Lands, Reached}
use Rattle.model.proofs.Radii.{radius-given}

-- ---- where it goes
-- a body's point without the ends of its sums and products; w is a power of a factor
one_generator : (c g h n o : ℚ) {w v : ℚ} → w ≡ v → c +ℚ (g *ℚ (w *ℚ 1ℚ) +ℚ 0ℚ) +ℚ (h *ℚ n +ℚ 0ℚ) +ℚ o ≡ c +ℚ g *ℚ v +ℚ h *ℚ n +ℚ o
one_generator c g h n o e = simp (+ℚ-zero, *ℚ-one, e)

two_generators : (c g h n k l o : ℚ) {w v : ℚ} → w ≡ v
    → c +ℚ (g *ℚ (w *ℚ 1ℚ) +ℚ 0ℚ) +ℚ (h *ℚ n +ℚ (k *ℚ l +ℚ 0ℚ)) +ℚ o ≡ c +ℚ g *ℚ v +ℚ h *ℚ n +ℚ k *ℚ l +ℚ o
two_generators c g h n k l o e = rw e (simp ring)

-- and a step's image
two-columns : (c d e a b q r s u y z : ℚ)
    → c +ℚ d *ℚ (a *ℚ y +ℚ (b *ℚ z +ℚ 0ℚ))
    +ℚ e *ℚ (y *ℚ (q *ℚ y +ℚ (r *ℚ z +ℚ 0ℚ)) +ℚ (z *ℚ (s *ℚ y +ℚ (u *ℚ z +ℚ 0ℚ)) +ℚ 0ℚ))
    ≡ c +ℚ d *ℚ (a *ℚ y +ℚ b *ℚ z) +ℚ e *ℚ (y *ℚ (q *ℚ y +ℚ r *ℚ z) +ℚ z *ℚ (s *ℚ y +ℚ u *ℚ z))
two-columns c d e a b q r s u y z = simp +ℚ-zero

-- every field is accepted, and moves the motion so
lands : (t : Picks) → Lands t
unfolding followed follow accepted after with_folds folds causes first_of misplaced cut kind_of meaning number word given_set given_step
    given_widths given_radii beyond_with bad_range bad_order is_too_wide span term_sizes generator_sizes radius_of rises order sum_by upto_by tab any all
    independent_sum tied_sum renumbered joined union insert_identifier align disturb hull blended opposite Ranged.ranged_step gaining_step gain
    rounded raw raw_centre raw_linear raw_square raw_pair pairs remainder dot bilinear inexact_at carried_at rounded_at round exact inexact
    finish drop_unused fold_generators fold_terms fold_high drop_zero_generators drop_zero_terms collect_terms insert collect_into those fold_all
    fold_times keep_at longer move with_values values_after mark_after value_at terms_at generators_at monomial power sum Always
lands t = record {
  at_start = λ i. two_generators (pair 100 50 i) (pair 40 20 i) (pair 6 10 i) (t.numbers 0 0) (pair 3 1 i) (t.numbers 0 1)
      (pair 30 8 i *ℚ t.offsets 0 i) (*ℚ-one (t.values 5));
  after-sum = λ i. ap (x t 0 i +ℚ◌) (one_generator (pair 11 13 i) (pair 17 19 i) (pair 4 21 i) (t.numbers 1 0)
      (pair 2 14 i *ℚ t.offsets 1 i) (*ℚ-one (t.own 1 5)));
  after_tied = λ i. ap (x t 1 i +ℚ◌) (one_generator (pair 16 22 i) (pair 23 24 i) (pair 25 26 i) (t.numbers 2 0)
      (pair 7 12 i *ℚ t.offsets 2 i) (ap (t.values 5 *ℚ◌) (*ℚ-one (t.values 5))));
  after_disturbance = λ i. refl;
  after-hull = λ i. ap (λ y. ½ *ℚ ((1ℚ +ℚ t.blend 4) *ℚ x t 3 i +ℚ (1ℚ -ℚ t.blend 4) *ℚ y))
      (one_generator (pair 27 28 i) (pair 29 31 i) (pair 32 33 i) (t.numbers 4 0) (pair 15 9 i *ℚ t.offsets 4 i) (*ℚ-one (t.values 9)));
  after-step = λ i. let a = (picks t).linear 5 i in let q = (picks t).quadratic 5 i in
      two-columns (pair 35 36 i) (pos 1 over 4096) (pos 1 over 16777216) (a 0) (a 1) (q 0 0) (q 0 1) (q 1 0) (q 1 1) (x t 4 0) (x t 4 1);
  values = (refl, refl, refl);
  claimed = λ a. a.1.1.1.1.1.0 tt;
}

-- ---- the limits
-- a number as it is written and as it is read
entry_is : (ns : List ℕ) (k : ℕ) → entry ns k ≡ ι (pos (get_or ns k 0))
entry_is [] k = refl
entry_is (n ∷ ns) zero = refl
entry_is (n ∷ ns) (suc k) = entry_is ns k

-- a part of a limit is within it
part-within : (ns : List ℕ) (k : ℕ) {y : ℚ} → Within y 1ℚ → Within (entry ns k *ℚ y) (ι (pos (get_or ns k 0)))
part-within ns k w = rw (entry_is ns k) (within-scaled (within-ι (pos (get_or ns k 0))) w)

-- the radii are the limits of the offsets
limit_is : (m i : ℕ) → let f = get_or six_fields m [] in get_or (get_or radii m []) i 0 ≡ offset_limit (kind_of (tag f)) (body f) i
unfolding kind_of offset_limit given_set given_radii number word tab
limit_is zero i = sym (radius-given 2 (30 ∷ 8 ∷ []) i)
limit_is (suc zero) i = sym (radius-given 2 (2 ∷ 14 ∷ []) i)
limit_is (suc (suc zero)) i = sym (radius-given 2 (7 ∷ 12 ∷ []) i)
limit_is (suc (suc (suc zero))) i = refl
limit_is (suc (suc (suc (suc zero)))) i = sym (radius-given 2 (15 ∷ 9 ∷ []) i)
limit_is (suc (suc (suc (suc (suc zero))))) i = refl
limit_is (suc (suc (suc (suc (suc (suc m)))))) i = refl

-- a coefficient is within the half-width of its entry
near_entry : (ns ws : List ℕ) (k : ℕ) {y : ℚ} → Within y 1ℚ → Near (entry ns k +ℚ entry ws k *ℚ y) (entry ns k) (ι (pos (get_or ws k 0)))
near_entry ns ws k {y} w = record { off = entry ws k *ℚ y; small = part-within ws k w; is = refl }

-- the last field is a ranged step, and no other is
in_widths : (t : Picks) → Parts t → (m : ℕ) → let f = get_or six_fields m [] in
    kind_of (tag f) ≡ ranged_step → InWidths (given_step (body f)) (given_widths (body f)) ((picks t).linear m) ((picks t).quadratic m)
unfolding kind_of given_step given_widths number word tab
in_widths t h (suc (suc (suc (suc (suc zero))))) e = record {
  linear = λ i j _ _. near_entry linear linear_widths (i * 2 + j) (h.linear 5 i j);
  quadratic = λ i j l _ _ _. near_entry quadratic quadratic_widths ((i * 2 + j) * 2 + l) (h.quadratic 5 i j l);
}
in_widths t h zero e = let z : ◌≡◌ {A = ℕ} 0 1 = cc in absurd (omega arith)
in_widths t h (suc zero) e = let z : ◌≡◌ {A = ℕ} 0 1 = cc in absurd (omega arith)
in_widths t h (suc (suc zero)) e = let z : ◌≡◌ {A = ℕ} 0 1 = cc in absurd (omega arith)
in_widths t h (suc (suc (suc zero))) e = let z : ◌≡◌ {A = ℕ} 0 1 = cc in absurd (omega arith)
in_widths t h (suc (suc (suc (suc zero)))) e = let z : ◌≡◌ {A = ℕ} 0 1 = cc in absurd (omega arith)
in_widths t h (suc (suc (suc (suc (suc (suc m)))))) e = let z : ◌≡◌ {A = ℕ} 0 1 = cc in absurd (omega arith)

-- every pick is inside its limit
allowed : (t : Picks) → Parts t → Allowed (picks t) six_fields
allowed t h = record {
  values = h.values;
  own = h.own;
  numbers = h.numbers;
  blend = h.blend;
  offsets = λ m i. subst (λ n. Within ((picks t).offsets m i) (ι (pos n))) (limit_is m i) (part-within (get_or radii m []) i (h.offsets m i));
  coefficients = in_widths t h;
}

pub reached : Reached
reached t h = (allowed t h, lands t)
