-- Outputs for one input, a start set 4096·α, a check whose region is x ≤ 0 and a tied sum with 4096·α: what is printed for it keeps the
-- promise, and each text with a fault doesn't.
use mathlib.Core.Path.{◌≡◌, refl, sym, ◌∙◌, ap, ap₂, subst}
use mathlib.Core.Bool.{true, true≢false}
use mathlib.Core.List.{List, [], ◌∷◌, ◌++◌}
use Prim.Native.Nat.{ℕ, zero, suc, ◌-◌, ◌<◌}
use Prim.Native.String.{String}
use native.Mathlib.Omega.{arith}
use lib.Dec.{lit<}
use lib.ListN.{length, get_or, drop}
use lib.IntN.{ℤ, pos, negsuc, ◌*ℤ◌}
use lib.Signed.{◌≤ℤ◌, le_z_yes}
use Rattle.whole.specs.Half.{half, half_size}
use Rattle.whole.specs.Sum.{sum_by, upto_by}
use Rattle.whole.specs.Tab.{tab, any, all}
use Rattle.rational.specs.Rational.{ℚ, ◌+ℚ◌, ◌*ℚ◌, neg_ℚ, ι, 0ℚ, 1ℚ, ◌≤ℚ◌}
use Rattle.rational.proofs.Ring.{+ℚ-zero, zero-+ℚ, *ℚ-one, *ℚ-neg_ℚ}
use Rattle.rational.proofs.Pinned.{ι-+, ι-*, ι-neg, ι-≤}
use Rattle.rational.specs.Bounds.{Within}
use Rattle.rational.proofs.Bounds.{within-one, within-neg}
use Rattle.rational.specs.Power.{power, even}
use Rattle.rational.specs.Sum as Sum
use Rattle.rational.specs.Sum.{sum}
use Rattle.model.specs.Set.{term_sizes, generator_sizes, span, longer, radius_of}
use Rattle.model.specs.Valid.{order, rises, bad_range, bad_order, is_too_wide}
use Rattle.model.specs.Finish.{insert, collect_into, those, shift, growth, fold_vector, fold_all, size, smallest, fold_smallest, folds}
use Rattle.model.specs.Finish.{fold_times}
use Rattle.model.specs.Finish.{keep_at, collect_terms, drop_zero_terms, drop_zero_generators, fold_high, fold_terms, fold_generators}
use Rattle.model.specs.Finish.{drop_unused, finish}
use Rattle.model.specs.Step.{dot}
use Rattle.model.specs.Operations.{insert_identifier, union, align, joined, tied_sum, least, greatest}
use Rattle.model.specs.Operations.{box, low_end, high_end, low_along, safe}
use Rattle.model.specs.Bytes.{number, word, long}
use Rattle.model.specs.Body.{given_set, given_halfspaces}
use Rattle.model.specs.Field.{ranged_step, meaning}
use Rattle.model.specs.Run.{begin, tag, kind_of, first_of, misplaced, cut, causes, accepted, after, outcome}
use Rattle.model.specs.Run.{with_folds, fields, fields_within, run}
use Rattle.model.specs.Points.{monomial, terms_at, generators_at, value_at}
use Rattle.model.specs.Motion.{Picks, Allowed, move, follow}
use Rattle.model.specs.Text.{ascii, decimal_within, decimal, signed_decimal, following, ends, box_line, verdict_line}
use Rattle.model.specs.Text.{folded_line, end_line, outcome_line, closing, lines_from, printed}
use Rattle.model.proofs.ByKind.{starts}
use Rattle.model.specs.Reading.{Line, bytes, same, onto, parts, is_natural, value, natural, whole, each, line_at}
use Rattle.model.specs.Reading.{judged, refused_with, of_field, end_with, line, lines_of, lines}
use Rattle.model.specs.Promised.{accepted_from, accepted_fields, field_at, coordinates_after, coordinates_from, coordinates}
use Rattle.model.specs.Promised.{moment_from, position, saying, LineOf, TrueOf, Promised}
use Rattle.model.proofs.Promise.{promise}
use Rattle.model.proofs.SomeMotion.{zero-within}

-- ---- the input
-- length 21, n = p = h = 1, q = 0, identifier 1, centre 0, exponent 1, coefficient 4096, radius 0
abbrev pub set : List ℕ
set = 21 ∷ 0 ∷ 1 ∷ 1 ∷ 1 ∷ 0 ∷ 1 ∷ 0 ∷ 0 ∷ 0 ∷ 0 ∷ 0 ∷ 0 ∷ 0 ∷ 1 ∷ 0 ∷ 16 ∷ 0 ∷ 0 ∷ 0 ∷ 0 ∷ 0 ∷ 0 ∷ []

-- length 14, n = 1, one halfspace, a = 4096, b = 0
abbrev region : List ℕ
region = 14 ∷ 0 ∷ 1 ∷ 1 ∷ 0 ∷ 16 ∷ 0 ∷ 0 ∷ 0 ∷ 0 ∷ 0 ∷ 0 ∷ 0 ∷ 0 ∷ 0 ∷ 0 ∷ []

abbrev pub input : List ℕ
input = (1 ∷ set) ++ (7 ∷ region) ++ (5 ∷ set)

-- ---- motions: the factor is v
abbrev pub at : ℚ → Picks
at v = record {
  values = λ k. v;
  own = λ m k. 0ℚ;
  numbers = λ m j. 0ℚ;
  offsets = λ m i. 0ℚ;
  blend = λ m. 0ℚ;
  linear = λ m i j. 0ℚ;
  quadratic = λ m i j l. 0ℚ;
}

not-ranged : (m : ℕ) → ¬ (kind_of (tag (field_at input m)) ≡ ranged_step)
unfolding kind_of fields fields_within number
not-ranged zero e = let z : ◌≡◌ {A = ℕ} 0 1 = cc in omega arith
not-ranged (suc zero) e = let z : ◌≡◌ {A = ℕ} 0 1 = cc in omega arith
not-ranged (suc (suc zero)) e = let z : ◌≡◌ {A = ℕ} 0 1 = cc in omega arith
not-ranged (suc (suc (suc m))) e = let z : ◌≡◌ {A = ℕ} 0 1 = cc in omega arith

pub allowed : {v : ℚ} → Within v 1ℚ → Allowed (at v) (fields input)
allowed w = record {
  values = λ k. w;
  own = λ m k. zero-within 1;
  numbers = λ m j. zero-within 1;
  offsets = λ m i. zero-within _;
  blend = λ m. zero-within 1;
  coefficients = λ m e. absurd (not-ranged m e);
}

-- the body's point
abbrev pub body_at : ℚ → ℚ
body_at v = ι (pos 0) +ℚ (ι (pos 4096) *ℚ (v *ℚ 1ℚ *ℚ 1ℚ) +ℚ 0ℚ) +ℚ 0ℚ +ℚ 0ℚ

pub counted : accepted_fields input ≡ 3
unfolding accepted_from accepted after with_folds folds causes first_of misplaced cut kind_of fields fields_within meaning number word long
    given_set given_halfspaces bad_range bad_order is_too_wide span term_sizes generator_sizes radius_of rises order sum_by upto_by tab any all
    tied_sum joined union insert_identifier align finish drop_unused fold_generators fold_terms fold_high drop_zero_generators drop_zero_terms
    collect_terms insert collect_into those fold_all fold_vector shift growth fold_times fold_smallest smallest size keep_at longer even half
    half_size
counted = refl

pub moved : (v : ℚ) → (position (at v) input 0 0 ≡ body_at v) × (position (at v) input 1 0 ≡ body_at v)
    × (position (at v) input 2 0 ≡ body_at v +ℚ body_at v)
unfolding moment_from follow accepted after with_folds folds causes first_of misplaced cut kind_of fields fields_within meaning number word long
    given_set given_halfspaces bad_range bad_order is_too_wide span term_sizes generator_sizes radius_of rises order sum_by upto_by tab any all
    tied_sum joined union insert_identifier align finish drop_unused fold_generators fold_terms fold_high drop_zero_generators drop_zero_terms
    collect_terms insert collect_into those fold_all fold_vector shift growth fold_times fold_smallest smallest size keep_at longer even half
    half_size move value_at terms_at generators_at monomial power sum
moved v = (refl, refl, refl)

body-point : (v : ℚ) → body_at v ≡ ι (pos 4096) *ℚ v
body-point v = simp (+ℚ-zero, zero-+ℚ, *ℚ-one)

pub up : body_at 1ℚ ≡ ι (pos 4096)
up = body-point 1ℚ ∙ simp *ℚ-one

down : body_at (neg_ℚ 1ℚ) ≡ ι (negsuc 4095)
down = body-point (neg_ℚ 1ℚ) ∙ simp (*ℚ-neg_ℚ, *ℚ-one, ← ι-neg)

-- ---- what an output that keeps the promise can't say
module _ (output : List ℕ) (kept : Promised input output) where
  -- a box holds both motions
  between : (m t : ℕ) (low high : ℤ) → m < 3 → 0 < coordinates input m → line_at output m ≡ Line.box m t (low ∷ high ∷ []) → (v : ℚ)
      → Within v 1ℚ → (ι low ≤ℚ position (at v) input m 0) × (position (at v) input m 0 ≤ℚ ι high)
  unfolding saying
  between m t low high h c e v w =
      subst (TrueOf (field_at input m) (coordinates input m) (position (at v) input m)) e
      ((kept.in_order m (subst (m <◌) (sym counted) h)).true_of_motions (at v) (allowed w)) 0 c

  pub first_ends : (low high : ℤ) → line_at output 0 ≡ Line.box 0 1 (low ∷ high ∷ []) → (low ≤ℤ negsuc 4095) × (pos 4096 ≤ℤ high)
  unfolding coordinates_from coordinates_after fields fields_within number kind_of
  first_ends low high e =
      let both = between 0 1 low high (lit< tt) (lit< tt) e in
      let lowest = (both (neg_ℚ 1ℚ) (within-neg within-one)).0 in let highest = (both 1ℚ within-one).1 in
      ((ι-≤ low (negsuc 4095)).0 (rw ((moved (neg_ℚ 1ℚ)).0 ∙ down) at lowest), (ι-≤ (pos 4096) high).0 (rw ((moved 1ℚ).0 ∙ up) at highest))

  pub third-ends : (low high : ℤ) → line_at output 2 ≡ Line.box 2 5 (low ∷ high ∷ []) → (low ≤ℤ negsuc 8191) × (pos 8192 ≤ℤ high)
  unfolding coordinates_from coordinates_after fields fields_within number kind_of
  third-ends low high e =
      let both = between 2 5 low high (lit< tt) (lit< tt) e in
      let lowest = (both (neg_ℚ 1ℚ) (within-neg within-one)).0 in let highest = (both 1ℚ within-one).1 in (
        (ι-≤ low (negsuc 8191)).0 (rw ((moved (neg_ℚ 1ℚ)).2 ∙ ap₂ ◌+ℚ◌ down down ∙ sym (ι-+ _ _)) at lowest),
        (ι-≤ (pos 8192) high).0 (rw ((moved 1ℚ).2 ∙ ap₂ ◌+ℚ◌ up up ∙ sym (ι-+ _ _)) at highest),
      )

  -- no check is called safe whose region holds a motion
  in_region : TrueOf (field_at input 1) (coordinates input 1) (position (at (neg_ℚ 1ℚ)) input 1) (Line.verdict 1 7 true) → ⊥
  unfolding saying coordinates_from coordinates_after fields fields_within number long word given_halfspaces tab kind_of sum
  in_region outside = outside refl (Sum.more
      (subst (λ x. ι (pos 4096) *ℚ x +ℚ 0ℚ ≤ℚ ι (pos 0)) (sym ((moved (neg_ℚ 1ℚ)).1 ∙ down))
      (subst (◌≤ℚ ι (pos 0)) (ι-* (pos 4096) (negsuc 4095) ∙ sym (+ℚ-zero _)) ((ι-≤ (pos 4096 *ℤ negsuc 4095) (pos 0)).1 (le_z_yes tt))))
      Sum.none)

  pub not-safe : line_at output 1 ≡ Line.verdict 1 7 true → ⊥
  not-safe e = in_region (subst (TrueOf (field_at input 1) (coordinates input 1) (position (at (neg_ℚ 1ℚ)) input 1)) e
      ((kept.in_order 1 (subst (1 <◌) (sym counted) (lit< tt))).true_of_motions (at (neg_ℚ 1ℚ)) (allowed (within-neg within-one))))

  -- each line is its field's
  pub its-line : (m : ℕ) (l : Line) → m < 3 → line_at output m ≡ l → LineOf m (field_at input m) (coordinates input m) l
  its-line m l h e = subst (LineOf m (field_at input m) (coordinates input m)) e (kept.in_order m (subst (m <◌) (sym counted) h)).its_own

  -- after the third stand the two that close it
  pub closes : drop 3 (lines output) ≡ Line.folded (run (fields input) begin).folded ∷ Line.end 2 ∷ []
  unfolding fields fields_within number
  closes = subst (λ k. drop k (lines output) ≡ Line.folded (run (fields input) begin).folded ∷ Line.end (k - 1) ∷ []) counted
      (kept.closing.accepted counted)

-- ---- texts
-- the number in an `end` line that is the second, plus 1; 0 where there is none
abbrev ending : Line → ℕ
ending (Line.box field tag ends) = 0
ending (Line.verdict field tag safe) = 0
ending (Line.refusal field number place) = 0
ending (Line.folded totals) = 0
ending (Line.end field) = suc field
ending Line.strange = 0

abbrev last_number : List Line → ℕ
last_number ls = ending (get_or ls 1 Line.strange)

abbrev Wrong : String → Type 0
Wrong text = Promised input (bytes text) → ⊥

-- the ends of a box exchanged
pub ends_exchanged : Wrong "0 1 4096 -4096\n1 7 unknown\n2 5 -8192 8192\nfolded 0 0 0 0 0 0\nend 2\n"
unfolding bytes same onto parts is_natural value natural whole each judged refused_with of_field end_with line lines_of lines all
ends_exchanged k = (first_ends _ k (pos 4096) (negsuc 4095) refl).0.le

-- a minus sign lost
pub minus_lost : Wrong "0 1 4096 4096\n1 7 unknown\n2 5 -8192 8192\nfolded 0 0 0 0 0 0\nend 2\n"
unfolding bytes same onto parts is_natural value natural whole each judged refused_with of_field end_with line lines_of lines all
minus_lost k = (first_ends _ k (pos 4096) (pos 4096) refl).0.le

-- a digit lost
pub digit_lost : Wrong "0 1 -4096 409\n1 7 unknown\n2 5 -8192 8192\nfolded 0 0 0 0 0 0\nend 2\n"
unfolding bytes same onto parts is_natural value natural whole each judged refused_with of_field end_with line lines_of lines all
digit_lost k = (first_ends _ k (negsuc 4095) (pos 409) refl).1.le

-- the box of another field
pub box_of_another_field : Wrong "0 1 -4096 4096\n1 7 unknown\n2 5 -4096 4096\nfolded 0 0 0 0 0 0\nend 2\n"
unfolding bytes same onto parts is_natural value natural whole each judged refused_with of_field end_with line lines_of lines all
box_of_another_field k = (third-ends _ k (negsuc 4095) (pos 4096) refl).0.le

-- safe, where a motion is in the region
pub safe_for_unknown : Wrong "0 1 -4096 4096\n1 7 safe\n2 5 -8192 8192\nfolded 0 0 0 0 0 0\nend 2\n"
unfolding bytes same onto parts is_natural value natural whole each judged refused_with of_field end_with line lines_of lines all
safe_for_unknown k = not-safe _ k refl

-- a line left out
pub line-left_out : Wrong "0 1 -4096 4096\n2 5 -8192 8192\nfolded 0 0 0 0 0 0\nend 2\n"
unfolding bytes same onto parts is_natural value natural whole each judged refused_with of_field end_with line lines_of lines all
    saying fields fields_within number coordinates_from coordinates_after kind_of
line-left_out k = omega (arith, (its-line _ k 1 _ (lit< tt) refl).0)

-- a line twice
pub line-twice : Wrong "0 1 -4096 4096\n1 7 unknown\n1 7 unknown\n2 5 -8192 8192\nfolded 0 0 0 0 0 0\nend 2\n"
unfolding bytes same onto parts is_natural value natural whole each judged refused_with of_field end_with line lines_of lines all
    saying fields fields_within number coordinates_from coordinates_after kind_of
line-twice k = omega (arith, (its-line _ k 2 _ (lit< tt) refl).0)

-- fields numbered from 1 on
pub numbered-from-one : Wrong "1 1 -4096 4096\n2 7 unknown\n3 5 -8192 8192\nfolded 0 0 0 0 0 0\nend 3\n"
unfolding bytes same onto parts is_natural value natural whole each judged refused_with of_field end_with line lines_of lines all
    saying fields fields_within number coordinates_from coordinates_after kind_of
numbered-from-one k = omega (arith, (its-line _ k 0 _ (lit< tt) refl).0)

-- the tag of another kind
pub another_tag : Wrong "0 2 -4096 4096\n1 7 unknown\n2 5 -8192 8192\nfolded 0 0 0 0 0 0\nend 2\n"
unfolding bytes same onto parts is_natural value natural whole each judged refused_with of_field end_with line lines_of lines all
    saying fields fields_within number coordinates_from coordinates_after kind_of
another_tag k = omega (arith, (its-line _ k 0 _ (lit< tt) refl).1)

-- one end for a coordinate
pub one_end : Wrong "0 1 -4096\n1 7 unknown\n2 5 -8192 8192\nfolded 0 0 0 0 0 0\nend 2\n"
unfolding bytes same onto parts is_natural value natural whole each judged refused_with of_field end_with line lines_of lines all
    saying fields fields_within number coordinates_from coordinates_after kind_of
one_end k = omega (arith, (its-line _ k 0 _ (lit< tt) refl).2)

-- a verdict for a box
pub no-box : Wrong "0 1 unknown\n1 7 unknown\n2 5 -8192 8192\nfolded 0 0 0 0 0 0\nend 2\n"
unfolding bytes same onto parts is_natural value natural whole each judged refused_with of_field end_with line lines_of lines all
    saying fields fields_within number coordinates_from coordinates_after kind_of
no-box k = true≢false (ap starts (its-line _ k 0 _ (lit< tt) refl).2)

-- no `folded` line
pub folded_left_out : Wrong "0 1 -4096 4096\n1 7 unknown\n2 5 -8192 8192\nend 2\n"
unfolding bytes same onto parts is_natural value natural whole each judged refused_with of_field end_with line lines_of lines all
folded_left_out k = omega (arith, ap length (closes _ k))

-- no `end` line
pub no_end : Wrong "0 1 -4096 4096\n1 7 unknown\n2 5 -8192 8192\nfolded 0 0 0 0 0 0\n"
unfolding bytes same onto parts is_natural value natural whole each judged refused_with of_field end_with line lines_of lines all
no_end k = omega (arith, ap length (closes _ k))

-- the last field's number off by one
pub another_end : Wrong "0 1 -4096 4096\n1 7 unknown\n2 5 -8192 8192\nfolded 0 0 0 0 0 0\nend 3\n"
unfolding bytes same onto parts is_natural value natural whole each judged refused_with of_field end_with line lines_of lines all
another_end k = omega (arith, ap last_number (closes _ k))

-- the last line not ended
pub not-ended : Wrong "0 1 -4096 4096\n1 7 unknown\n2 5 -8192 8192\nfolded 0 0 0 0 0 0\nend 2"
unfolding bytes same onto parts is_natural value natural whole each judged refused_with of_field end_with line lines_of lines all
not-ended k = omega (arith, ap last_number (closes _ k))

-- a refusal after accepted fields
pub refused-at_the_end : Wrong "0 1 -4096 4096\n1 7 unknown\n2 5 -8192 8192\n3 refused 1 65\n"
unfolding bytes same onto parts is_natural value natural whole each judged refused_with of_field end_with line lines_of lines all
refused-at_the_end k = omega (arith, ap length (closes _ k))

-- a line after the last
pub more-after_the_end : Wrong "0 1 -4096 4096\n1 7 unknown\n2 5 -8192 8192\nfolded 0 0 0 0 0 0\nend 2\nend 2\n"
unfolding bytes same onto parts is_natural value natural whole each judged refused_with of_field end_with line lines_of lines all
more-after_the_end k = omega (arith, ap length (closes _ k))

-- ---- what is printed for it
printed_as : printed input ≡ bytes "0 1 -4096 4096\n1 7 unknown\n2 5 -8192 8192\nfolded 0 0 0 0 0 0\nend 2\n"
unfolding printed lines_from closing outcome_line folded_line end_line box_line verdict_line ends following signed_decimal decimal
    decimal_within ascii bytes outcome after with_folds folds causes first_of misplaced cut kind_of fields fields_within meaning number word
    long given_set given_halfspaces bad_range bad_order is_too_wide span term_sizes generator_sizes radius_of rises order sum_by upto_by tab any all
    tied_sum joined union insert_identifier align finish drop_unused fold_generators fold_terms fold_high drop_zero_generators drop_zero_terms
    collect_terms insert collect_into those fold_all fold_vector shift growth fold_times fold_smallest smallest size keep_at longer even half
    half_size box low_end high_end least greatest low_along dot safe
printed_as = refl

pub right : Promised input (bytes "0 1 -4096 4096\n1 7 unknown\n2 5 -8192 8192\nfolded 0 0 0 0 0 0\nend 2\n")
right = subst (Promised input) printed_as (promise input)
