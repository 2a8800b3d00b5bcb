-- What a body with a set in it is answered, and what the code asks of it.
use Rattle.std.specs.Prelude.{◌≡◌, refl, Bool, true, false, ◌||◌, ℕ, ◌≤◌, length, Result, Ok, Err, ⊤}
use Rattle.std.proofs.Common.{sym, ◌∙◌, subst, eq-eqb, ne_eqb}
use Rattle.std.proofs.Math.Path.{ap}
use mathlib.Core.List.{List, [], ◌∷◌, ◌++◌}
use Rattle.std.proofs.Math.Option.{Option, none, some}
use Rattle.std.specs.Result.{IsErrAnd}
use Rattle.std.proofs.Math.Bool.{or-true, or-false, or_assoc}
use Rattle.whole.specs.Tab.{any}
use Rattle.whole.specs.Tests.{or_left}
use Rattle.model.specs.Limits.{record_identifiers}
use Rattle.model.specs.Set.{Zonotope}
use Rattle.model.specs.Valid.{bad_range, bad_order, is_too_wide}
use Rattle.model.specs.Body.{dimension, set_length, radius_words, given_set}
use Rattle.model.specs.Field.{start, meaning, of_set, differs, negative}
use Rattle.model.specs.Run.{◌if◌, first_of, of_body, no_set}
use Rattle.model.specs.Library.{Given, examine}
use Rattle.zonotope.specs.declared.PolyZonotope.{PolyZonotope}
use Rattle.zonotope.specs.declared.Cause as Zonotopes
use Rattle.zonotope.specs.Valid.{Unrefused, passed}
use Rattle.zonotope.specs.Record.{view, pack, given}
use Rattle.zonotope.specs.Answer.{Examined, Refused, cause_of, examined, or_else, first_append, nothing_found, passed_on}
use Rattle.answers.specs.Answer.{of_result, resulted, result-refused}
use Rattle.answers.specs.Order.{neither}
use Rattle.answers.specs.Accepted.{equal}
use Rattle.answers.specs.Accepted as records
use Rattle.summing.specs.Summable.{Summable}
use Rattle.bodies.specs.Set.{set_counts_out, SetBody}
use Rattle.bodies.specs.Given.{given_record, given-counts, given-view, file_range, pack_sized}
use Rattle.fields.specs.Refusal.{body_refusal}
use Rattle.fields.specs.Layout.{laid_out}
use Rattle.fields.specs.Sets.{of_layout, beyond_range, of_contents, of_summand, beyond_file}

-- ---- the layout
pub set_body : (b : List ℕ) → first_of (of_layout b) ≡ none → (4 ≤ length b) × SetBody b
set_body b e = let l = laid_out 4 (set_counts_out b) (set_length b) (length b) e in
    (l.counts_in, record { counts = l.right; long = l.whole })

-- ---- the contents
-- nothing is asked after the last
pub or_else_none : (o : Option ℕ) → or_else o none ≡ o
or_else_none none = refl
or_else_none (some n) = refl

-- 6 is this, or what examining a record finds
range_parts : (b : List ℕ) → beyond_range b ≡ (bad_range record_identifiers (given_set b) || beyond_file b)
range_parts b = ap (◌|| any negative (radius_words b)) (file_range (given_set b)) ∙ or_assoc (bad_range record_identifiers (given_set b)) _ _

module _ {b : List ℕ} (s : SetBody b) where
  pub contents_out : beyond_file b ≡ true → Refused 6 ≡ examined (first_of (of_contents b))
  unfolding first_of
  contents_out e = rw (range_parts b, e, or-true (bad_range record_identifiers (given_set b)))

  -- else the rest is asked by examining the record
  pub contents_in : beyond_file b ≡ false → {r : Examined} → r ≡ examined (examine (given (pack (given_set b))))
      → r ≡ examined (first_of (of_contents b))
  unfolding first_of examine
  contents_in e {r} p =
      p ∙ ap (λ (g : Given). examined (examine g)) (given_record b s.counts)
      ∙ rw (given-counts b, s.counts, range_parts b, e, or-false (bad_range record_identifiers (given_set b)))

-- ---- the answer for the contents
module _ (b : List ℕ) where
  pub read_refused : {c : Zonotopes.Cause} {r : Result PolyZonotope Zonotopes.Cause} → Err c ≡ examined (first_of (of_contents b))
      → IsErrAnd r (λ e. e ≡ c) → r ≡ resulted (first_of (of_contents b)) (given_set b)
  read_refused e f = passed_on (λ o. resulted o (given_set b)) (λ n. refl) (first_of (of_contents b)) e f

  pub read_accepted : {u : ⊤} → Ok u ≡ examined (first_of (of_contents b)) → {x : PolyZonotope} → x ≡ pack (given_set b)
      → Ok x ≡ resulted (first_of (of_contents b)) (given_set b)
  read_accepted e {x} p = rw (p, nothing_found (first_of (of_contents b)) e)

-- ---- the summand: its layout, 5, its contents
module _ (n : ℕ) (b : List ℕ) (m : Zonotope) where
  pub summand_order : first_of (of_summand n b) ≡ or_else (first_of (of_layout b)) (first_of ((5 if differs (dimension b) n) ∷ of_contents b))
  summand_order = first_append (of_layout b) ((5 if differs (dimension b) n) ∷ of_contents b)

  pub other_dimension : (dimension b ≡ n → ⊥) → Err (cause_of 5) ≡ resulted (first_of ((5 if differs (dimension b) n) ∷ of_contents b)) m
  unfolding first_of
  other_dimension h = rw (ne_eqb (dimension b) n h)

  pub same-dimension : dimension b ≡ n → {r : Result PolyZonotope Zonotopes.Cause} → r ≡ resulted (first_of (of_contents b)) m
      → r ≡ resulted (first_of ((5 if differs (dimension b) n) ∷ of_contents b)) m
  unfolding first_of
  same-dimension h e = rw (eq-eqb (dimension b) n h) e

-- ---- the order of causes
-- a set that is its own result is too wide once
wide_once : (x y w : Bool) → first_of ((6 if x) ∷ (7 if y) ∷ (8 if w) ∷ (9 if false) ∷ (10 if w) ∷ []) ≡
    first_of ((6 if x) ∷ (7 if y) ∷ (8 if w) ∷ [])
unfolding first_of
wide_once x y true = refl
wide_once x y false = refl

module _ (b : List ℕ) where
  -- a start set: the layout, then the contents; what its result adds holds where the contents are too wide
  pub start_order : body_refusal start b 0 no_set ≡ or_else (first_of (of_layout b)) (first_of (of_contents b))
  unfolding meaning first_of
  start_order =
      first_append (of_layout b) ((5 if false) ∷ (of_contents b ++ ((9 if false) ∷ (10 if is_too_wide (given_set b)) ∷ [])))
      ∙ ap (or_else (first_of (of_layout b))) (wide_once (beyond_range b) (bad_order (given_set b)) (is_too_wide (given_set b)))

  -- a field that makes one set of the current one and the body's: the body's set, the factors of both, the result; what folding adds
  -- refuses nothing
  pub made_order : (n : ℕ) (many : Bool) (m : Zonotope) (next : ℕ)
      → first_of (of_body (of_set b (differs (dimension b) n) many m [] next) (length b))
      ≡ or_else (first_of (of_summand n b)) (or_else (first_of ((9 if many) ∷ [])) (of_result m))
  unfolding first_of
  made_order n many m next =
      let result = (10 if is_too_wide m) ∷ [] in
      first_append (of_summand n b) ((9 if many) ∷ result)
      ∙ ap (or_else (first_of (of_summand n b))) (first_append ((9 if many) ∷ []) result)

-- ---- answers, by what is asked first
-- what a reading that gave a set says: nothing refused it
pub read-none : (o : Option ℕ) (m : Zonotope) {t : PolyZonotope} → Ok t ≡ resulted o m → (o ≡ none) × (t ≡ pack m)
read-none none m e = (refl, cc)
read-none (some n) m e = absurd cc

-- or one that gave a cause
pub read-some : (o : Option ℕ) (m : Zonotope) {c : Zonotopes.Cause} → Err c ≡ resulted o m → Err c ≡ examined o
read-some none m e = absurd cc
read-some (some n) m {c} e = let d : c ≡ cause_of n = cc in rw d

-- the summand of a sum that nothing refuses
pub summand_accepted : (n : ℕ) (b : List ℕ) → first_of (of_summand n b) ≡ none → SetBody b × records.AcceptedRecord (pack (given_set b)) ×
    (dimension b ≡ n)
unfolding first_of
summand_accepted n b e =
    let parts = neither (first_of (of_layout b)) (first_of ((5 if differs (dimension b) n) ∷ of_contents b)) (sym (first_append (of_layout b)
    ((5 if differs (dimension b) n) ∷ of_contents b)) ∙ e) in
    let laid = (set_body b parts.0).1 in
    let dimensions = passed (differs (dimension b) n) 5 parts.1 in
    let range = passed (beyond_range b) 6 dimensions.1 in
    let order = passed (bad_order (given_set b)) 7 range.1 in
    let wide = passed (is_too_wide (given_set b)) 8 order.1 in (
      laid,
      record {
        sized = pack_sized (given_set b);
        passed = subst Unrefused (sym (given_record b laid.counts)) (record {
          counts = given-counts b ∙ laid.counts;
          range = or_left (bad_range record_identifiers (given_set b)) (beyond_file b) (sym (range_parts b) ∙ range.0);
          full = refl;
          order = order.0;
          narrow = wide.0;
        });
      },
      equal (dimension b) n dimensions.0,
    )

pub second_summable : (first : PolyZonotope) (b : List ℕ) → records.AcceptedRecord first → first_of (of_summand first.dimension b) ≡ none
    → {second : PolyZonotope} → second ≡ pack (given_set b) → Summable first second
unfolding pack given_set
second_summable first b a e p =
    let s = summand_accepted first.dimension b e in
    rw p (record { first = a; second = s.1; same = s.2 })

-- ---- one set of the current one and the body's: whether they have too many factors, and what is made of them, by the body's set
module _ (first : PolyZonotope) (b : List ℕ) (many : Zonotope → Bool) (made : Zonotope → Zonotope) (next : ℕ) where
  abbrev own : Option ℕ
  own = first_of (of_summand first.dimension b)

  abbrev later : Zonotope → Option ℕ
  later u = or_else (first_of ((9 if many u) ∷ [])) (of_result (made u))

  -- what refuses the field
  abbrev refusal : Option ℕ
  refusal = first_of (of_body (of_set b (differs (dimension b) first.dimension) (many (given_set b)) (made (given_set b)) [] next) (length b))

  order : refusal ≡ or_else own (later (given_set b))
  order = made_order b first.dimension (many (given_set b)) (made (given_set b)) next

  -- the body's set is refused
  pub made_refused : {c : Zonotopes.Cause} {r : Result PolyZonotope Zonotopes.Cause} → Err c ≡ resulted own (given_set b)
      → IsErrAnd r (λ e. e ≡ c) → r ≡ resulted refusal (made (given_set b))
  made_refused e f = result-refused own (later (given_set b)) order (made (given_set b)) (read-some own (given_set b) e) f

  -- or it can be used
  module _ {t : PolyZonotope} (yes : Ok t ≡ resulted own (given_set b)) where
    abbrev unrefused : own ≡ none
    unrefused = (read-none own (given_set b) yes).0

    pub made_summable : records.AcceptedRecord first → Summable first t
    made_summable a = second_summable first b a unrefused (read-none own (given_set b) yes).1

    pub made_answered : {r : Result PolyZonotope Zonotopes.Cause} → r ≡ resulted (later (view t)) (made (view t))
        → r ≡ resulted refusal (made (given_set b))
    made_answered p =
        p ∙ ap (λ (u : Zonotope). resulted (later u) (made u)) same
        ∙ ap (λ o. resulted (or_else o (later (given_set b))) (made (given_set b))) (sym unrefused)
        ∙ ap (λ o. resulted o (made (given_set b))) (sym order)
      where
        same : view t ≡ given_set b
        same = ap view (read-none own (given_set b) yes).1 ∙ given-view b (summand_accepted first.dimension b unrefused).0.counts
