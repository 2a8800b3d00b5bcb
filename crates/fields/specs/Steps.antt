-- Steps and ranged steps: their causes in parts, and what they leave in their work slices.
use Rattle.std.specs.Prelude.{◌≡◌, List, [], ◌∷◌, ◌++◌, Bool, ◌||◌, ℕ, eqb, length, ℤ, pos, Result, Ok, Err, ⊤}
use Rattle.std.proofs.Math.Path.{refl}
use Rattle.std.proofs.Common.{sym, ap, ◌∙◌, true≢false}
use Rattle.std.proofs.Math.Option.{Option, none}
use Rattle.std.specs.Result.{IsErrAnd}
use Rattle.std.proofs.Math.Bool.{true, false}
use borrow.Author.Tests.{eq-eqb, le-ltb}
use Rattle.whole.specs.Tab.{length-tab, map-tab}
use Rattle.model.specs.Limits.{standard_weights}
use Rattle.model.specs.Set.{Zonotope}
use Rattle.model.specs.Valid.{is_too_wide}
use Rattle.model.specs.Step as Step
use Rattle.model.specs.Step.{Step}
use Rattle.model.specs.Ranged as Ranged
use Rattle.model.specs.Ranged.{Widths}
use Rattle.model.specs.Body.{step_columns, step_length, given_step, ranged_length, given_widths}
use Rattle.model.specs.Field.{Kind, step, ranged_step, meaning, of_step_body, differs, bad_step_range, negative_width}
use Rattle.model.specs.Field.{bad_width_range}
use Rattle.model.specs.Run.{Cause, ◌if◌, first_of, of_body}
use Rattle.model.specs.Library.{bad_step_lengths, bad_width_lengths, of_step, of_ranged_step}
use Rattle.zonotope.specs.declared.PolyZonotope.{PolyZonotope}
use Rattle.zonotope.specs.declared.Cause as Zonotopes
use Rattle.zonotope.specs.Record.{view}
use Rattle.zonotope.specs.Answer.{Accepted, Refused, examined, or_else, first_append, nothing_found}
use Rattle.answers.specs.Answer.{of_result, resulted, settled, result-refused, result-next}
use Rattle.answers.specs.Order.{neither}
use Rattle.raw.specs.Append.{KeptFrom}
use Rattle.image.specs.StepAccepted.{StepAccepted}
use Rattle.widths.specs.Widths.{WidthsAccepted}
use Rattle.stepping.specs.Arguments.{ranged_in}
use Rattle.stepping.specs.Work.{work_numbers, work_exponents, worked, result-worked}
use Rattle.bodies.specs.Fields.{step_counts_out}
use Rattle.fields.specs.Refusal.{body_refusal, result_of}
use Rattle.fields.specs.Effect.{Used}
use Rattle.fields.specs.Layout.{layout, LaidOut, in_parts}

-- ---- definitions
-- what a step leaves in a work slice, by the number that refuses it
abbrev pub Worked : {A : Type 0} → A → Option ℕ → ℕ → List A → List A → Type 0
Worked d o n before after = Used (worked o) d n before after

-- what a call that makes a set answers
abbrev pub Made : Type 0
Made = Result PolyZonotope Zonotopes.Cause

-- it is as long as its counts say: 3, 4, 3
abbrev pub layout_of : List ℕ → ℕ → List Cause
layout_of b bytes = layout 2 (step_counts_out b) bytes (length b)

abbrev pub BodyLaid : List ℕ → ℕ → Type 0
BodyLaid b bytes = LaidOut 2 (step_counts_out b) bytes (length b)

-- its dimension and the range of its numbers: 5, 6
abbrev of_numbers : Bool → Bool → List Cause
of_numbers dimension range = (5 if dimension) ∷ (6 if range) ∷ []

-- the number that refuses a step by its own causes or by its result
abbrev pub of_stepped : List Cause → Zonotope → Option ℕ
of_stepped own result = or_else (first_of own) (of_result result)

-- what is answered for a step with these causes of its own and this result, and what it leaves in its work slices
pub record Stepped (own : List Cause) (result : Zonotope) (r : Made) (w₀ w : List ℤ) (e₀ e : List ℕ) : Type 0 where
  pub answer : r ≡ resulted (of_stepped own result) result
  pub numbers : Worked (pos 0) (of_stepped own result) work_numbers w₀ w
  pub exponents : Worked 0 (of_stepped own result) work_exponents e₀ e

-- for the step p
abbrev pub SteppedBy : Step → PolyZonotope → Made → List ℤ → List ℤ → List ℕ → List ℕ → Type 0
SteppedBy p s r w₀ w e₀ e = Stepped (of_step p s.dimension) (Step.step standard_weights p (view s)) r w₀ w e₀ e

-- for a ranged step, whose half-widths are sizes of words of which one may be negative
abbrev pub of_ranged_words : Step → Widths → Bool → ℕ → List Cause
of_ranged_words p d negative dimension = of_ranged_step p d dimension ++ ((6 if negative) ∷ [])

abbrev pub RangedBy : Step → Widths → Bool → PolyZonotope → Made → List ℤ → List ℤ → List ℕ → List ℕ → Type 0
RangedBy p d negative s r w₀ w e₀ e =
    Stepped (of_ranged_words p d negative s.dimension) (Ranged.ranged_step standard_weights p d (view s)) r w₀ w e₀ e

-- ---- the work slices
module _ {A : Type 0} (d : A) (o : Option ℕ) (n : ℕ) where
  slice_untouched : (xs : List A) → Worked d o n xs xs
  slice_untouched xs = record { untouched = λ h. refl; kept = record { place = λ x l. refl } }

  slice_worked : {before after : List A} → worked o ≡ true → KeptFrom d n before after → Worked d o n before after
  slice_worked e k = record { untouched = λ h. absurd (true≢false (sym e ∙ h)); kept = k }

-- ---- from the answer to a step's own causes
module _ (own : List Cause) (result : Zonotope) where
  pub stepped-refused : {c : Zonotopes.Cause} {r : Made} → Err c ≡ examined (first_of own) → IsErrAnd r (λ e. e ≡ c)
      → (w : List ℤ) (e : List ℕ) → Stepped own result r w w e e
  stepped-refused p f w e = record {
    answer = result-refused (first_of own) (of_result result) refl result p f;
    numbers = slice_untouched (pos 0) (of_stepped own result) work_numbers w;
    exponents = slice_untouched 0 (of_stepped own result) work_exponents e;
  }

  pub stepped-worked : {u : ⊤} → Ok u ≡ examined (first_of own) → {r : Made} {w₀ w : List ℤ} {e₀ e : List ℕ} → r ≡ settled result
      → KeptFrom (pos 0) work_numbers w₀ w → KeptFrom 0 work_exponents e₀ e → Stepped own result r w₀ w e₀ e
  stepped-worked p a kw ke =
      let done : worked (of_stepped own result) ≡ true = rw (nothing_found (first_of own) p) (result-worked result) in record {
        answer = result-next (first_of own) (of_result result) refl result p a;
        numbers = slice_worked (pos 0) (of_stepped own result) work_numbers done kw;
        exponents = slice_worked 0 (of_stepped own result) work_exponents done ke;
      }

-- ---- a field whose body begins with a step, by its length, by whether a number is out of range, and by its result
module _ (b : List ℕ) (bytes : ℕ) (range : Bool) (s : PolyZonotope) (result : Zonotope) where
  -- the number that refuses it
  abbrev field_refusal : Option ℕ
  field_refusal = first_of (of_body (of_step_body b bytes range (view s) 0 result []) (length b))

  -- what is answered, and what is left in the work slices
  abbrev FieldStepped : Made → List ℤ → List ℤ → List ℕ → List ℕ → Type 0
  FieldStepped r w₀ w e₀ e =
      (r ≡ resulted field_refusal result)
      × (Worked (pos 0) field_refusal work_numbers w₀ w × Worked 0 field_refusal work_exponents e₀ e)

  abbrev numbers : List Cause
  numbers = of_numbers (differs (step_columns b) s.dimension) range

  field-order : field_refusal ≡ or_else (first_of (layout_of b bytes)) (of_stepped numbers result)
  unfolding view first_of
  field-order = in_parts (layout_of b bytes) numbers ((10 if is_too_wide result) ∷ [])

  layout-refused : {c : Zonotopes.Cause} {r : Made} → Err c ≡ examined (first_of (layout_of b bytes)) → IsErrAnd r (λ e. e ≡ c)
      → (w : List ℤ) (e : List ℕ) → FieldStepped r w w e e
  layout-refused p f w e = (
    result-refused (first_of (layout_of b bytes)) (of_stepped numbers result) field-order result p f,
    (slice_untouched (pos 0) field_refusal work_numbers w, slice_untouched 0 field_refusal work_exponents e),
  )

  -- in a body that is laid out, it is answered by causes that are 5 and 6
  laid_stepped : BodyLaid b bytes → (own : List Cause) → first_of own ≡ first_of numbers
      → {r : Made} {w₀ w : List ℤ} {e₀ e : List ℕ} → Stepped own result r w₀ w e₀ e → FieldStepped r w₀ w e₀ e
  unfolding first_of
  laid_stepped h own same k = rw order (k.answer, (k.numbers, k.exponents))
    where
      order : field_refusal ≡ of_stepped own result
      order =
          field-order
          ∙ rw (le-ltb (length b) 2 h.counts_in, h.right, eq-eqb (length b) bytes h.whole)
          (ap (λ (o : Option ℕ). or_else o (of_result result)) (sym same))

-- ---- the two kinds: in a body that is laid out, what the counts and lengths ask doesn't hold
same : (n : ℕ) → eqb n n ≡ true
same n = eq-eqb n n refl

lengths_right : (b : List ℕ) → bad_step_lengths (given_step b) ≡ false
unfolding given_step
lengths_right b = simp (length-tab, same)

width_lengths_right : (b : List ℕ) → bad_width_lengths (given_step b) (given_widths b) ≡ false
unfolding given_step given_widths
width_lengths_right b = simp (map-tab, length-tab, same)

module _ (b : List ℕ) (s : PolyZonotope) where
  -- what a step's kind promises, and a ranged step's
  abbrev pub KindStepped : Kind → Made → List ℤ → List ℤ → List ℕ → List ℕ → Type 0
  KindStepped k r w₀ w e₀ e =
      (r ≡ resulted (body_refusal k b 0 (view s)) (result_of k b 0 (view s)))
      × (Worked (pos 0) (body_refusal k b 0 (view s)) work_numbers w₀ w × Worked 0 (body_refusal k b 0 (view s)) work_exponents e₀ e)

  -- ---- a step
  abbrev image : Zonotope
  image = Step.step standard_weights (given_step b) (view s)

  own-causes : step_counts_out b ≡ false → first_of (of_step (given_step b) s.dimension)
      ≡ first_of (of_numbers (differs (step_columns b) s.dimension) (bad_step_range (given_step b)))
  unfolding first_of given_step
  own-causes right = rw (right, lengths_right b)

  pub step-stepped : BodyLaid b (step_length b) → {r : Made} {w₀ w : List ℤ} {e₀ e : List ℕ}
      → SteppedBy (given_step b) s r w₀ w e₀ e → KindStepped step r w₀ w e₀ e
  unfolding meaning
  step-stepped laid k = laid_stepped b (step_length b) (bad_step_range (given_step b)) s image laid (of_step (given_step b) s.dimension)
      (own-causes laid.right) k

  pub step-refused : {c : Zonotopes.Cause} {r : Made} → Err c ≡ examined (first_of (layout_of b (step_length b))) → IsErrAnd r (λ e. e ≡ c)
      → (w : List ℤ) (e : List ℕ) → KindStepped step r w w e e
  unfolding meaning
  step-refused p f w e = layout-refused b (step_length b) (bad_step_range (given_step b)) s image p f w e

  -- ---- a ranged step
  abbrev ranged_causes : List Cause
  ranged_causes = of_ranged_words (given_step b) (given_widths b) (negative_width b) s.dimension

  abbrev ranged_range : Bool
  ranged_range = bad_step_range (given_step b) || (negative_width b || bad_width_range (given_step b) (given_widths b))

  abbrev ranged_image : Zonotope
  ranged_image = Ranged.ranged_step standard_weights (given_step b) (given_widths b) (view s)

  ranged-causes : step_counts_out b ≡ false
      → first_of ranged_causes ≡ first_of (of_numbers (differs (step_columns b) s.dimension) ranged_range)
  unfolding first_of given_step
  ranged-causes right =
      rw (right, lengths_right b, width_lengths_right b)
      (by_case (differs (step_columns b) s.dimension) (bad_step_range (given_step b)) (bad_width_range (given_step b) (given_widths b))
      (negative_width b))
    where
      by_case : (five entries widths negative : Bool)
          → first_of ((5 if five) ∷ (6 if entries) ∷ (6 if widths) ∷ (6 if negative) ∷ [])
          ≡ first_of (of_numbers five (entries || (negative || widths)))
      by_case true entries widths negative = refl
      by_case false true widths negative = refl
      by_case false false true true = refl
      by_case false false true false = refl
      by_case false false false true = refl
      by_case false false false false = refl

  pub ranged-stepped : BodyLaid b (ranged_length b) → {r : Made} {w₀ w : List ℤ} {e₀ e : List ℕ}
      → RangedBy (given_step b) (given_widths b) (negative_width b) s r w₀ w e₀ e → KindStepped ranged_step r w₀ w e₀ e
  unfolding meaning
  ranged-stepped laid k = laid_stepped b (ranged_length b) ranged_range s ranged_image laid ranged_causes (ranged-causes laid.right) k

  pub ranged-refused : {c : Zonotopes.Cause} {r : Made} → Err c ≡ examined (first_of (layout_of b (ranged_length b)))
      → IsErrAnd r (λ e. e ≡ c) → (w : List ℤ) (e : List ℕ) → KindStepped ranged_step r w w e e
  unfolding meaning
  ranged-refused p f w e = layout-refused b (ranged_length b) ranged_range s ranged_image p f w e

-- ---- the own causes of a ranged step
-- the answers for the signs
abbrev pub of_signs : Bool → Option ℕ
of_signs negative = first_of ((6 if negative) ∷ [])

pub some_negative : {negative : Bool} → negative ≡ true → Refused 6 ≡ examined (of_signs negative)
unfolding first_of
some_negative e = rw e

pub none_negative : {negative : Bool} → negative ≡ false → Accepted ≡ examined (of_signs negative)
unfolding first_of
none_negative e = rw e

module _ (p : Step) (d : Widths) (negative : Bool) (dimension : ℕ) where
  pub words-parts : first_of (of_ranged_words p d negative dimension)
      ≡ or_else (first_of (of_ranged_step p d dimension)) (of_signs negative)
  words-parts = first_append (of_ranged_step p d dimension) ((6 if negative) ∷ [])

  -- where none holds
  pub words_in : first_of (of_ranged_words p d negative dimension) ≡ none
      → StepAccepted p × WidthsAccepted p.rows p.columns d.linear d.quadratic
  words_in e =
      ranged_in p d dimension
      (neither (first_of (of_ranged_step p d dimension)) (of_signs negative) (sym words-parts ∙ e)).0
