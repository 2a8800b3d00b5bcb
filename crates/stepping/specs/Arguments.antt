-- The causes that refuse a step's own numbers and its half-widths, by the parts in which they are asked, and what it says that none holds.
use Rattle.std.specs.Prelude.{◌≡◌, false, cond, ◌||◌, List, [], ◌∷◌, ◌++◌, ℕ, ◌*◌, ◌≤◌, ltb, eqb, ℤ, length, Ok, ⊤}
use Rattle.std.proofs.Common.{sym, ◌∙◌, arith, ltb-false}
use Rattle.std.proofs.Math.Path.{ap}
use Rattle.std.proofs.Math.Bool.{or_assoc}
use Rattle.std.proofs.Math.Option.{Option, none, some}
use Rattle.whole.specs.Tab.{any}
use Rattle.whole.specs.Tests.{or_left, or_right}
use Rattle.model.specs.Limits.{max_constant, max_entry}
use Rattle.model.specs.Step.{Step}
use Rattle.model.specs.Ranged.{Widths}
use Rattle.model.specs.Field.{bad_dimension, beyond, differs, bad_step_range, beyond_with, bad_width_range}
use Rattle.model.specs.Run.{Cause, ◌if◌, first_of}
use Rattle.model.specs.Library.{bad_step_counts, bad_step_lengths, bad_width_lengths, of_step, of_ranged_step}
use Rattle.zonotope.specs.Valid.{passed}
use Rattle.zonotope.specs.Answer.{Examined, examined, or_else, first_append}
use Rattle.answers.specs.Answer.{asked-next}
use Rattle.answers.specs.Order.{neither}
use Rattle.answers.specs.Accepted.{equal}
use Rattle.image.specs.StepAccepted.{StepAccepted, shaped}
use Rattle.widths.specs.Widths.{WidthsAccepted}
use Rattle.widths.specs.Entries.{widths_small}

-- ---- the parts
-- a step's counts and the lengths of its lists: 4, 3
abbrev pub of_shape : Step → List Cause
of_shape p = (4 if bad_step_counts p) ∷ (3 if bad_step_lengths p) ∷ []

-- the set's dimension and the step's entries: 5, 6
abbrev pub of_numbers : ℕ → List ℤ → List ℤ → List ℤ → ℕ → List Cause
of_numbers n c a q dimension =
    (5 if differs n dimension) ∷ (6 if any (beyond max_constant) c || any (beyond max_entry) a || any (beyond max_entry) q) ∷ []

abbrev pub numbers_in : Step → ℕ → List Cause
numbers_in p dimension = of_numbers p.columns p.constant p.linear p.quadratic dimension

-- 6: the half-widths with their entries
abbrev pub of_widths : Step → Widths → List Cause
of_widths p d = (6 if bad_width_range p d) ∷ []

-- what is asked of a ranged step after its shape, and after the lengths of its half-widths
abbrev pub after_lengths : Step → Widths → ℕ → Option ℕ
after_lengths p d dimension = or_else (first_of (numbers_in p dimension)) (first_of (of_widths p d))

abbrev pub after_shape : Step → Widths → ℕ → Option ℕ
after_shape p d dimension = cond (bad_width_lengths p d) (some 3) (after_lengths p d dimension)

module _ (p : Step) (dimension : ℕ) where
  pub step-parts : first_of (of_step p dimension) ≡ or_else (first_of (of_shape p)) (first_of (numbers_in p dimension))
  step-parts = first_append (of_shape p) (numbers_in p dimension)

  pub ranged-parts : (d : Widths) → first_of (of_ranged_step p d dimension) ≡ or_else (first_of (of_shape p)) (after_shape p d dimension)
  unfolding first_of
  ranged-parts d =
      first_append (of_shape p) ((3 if bad_width_lengths p d) ∷ numbers_in p dimension ++ of_widths p d)
      ∙ ap (λ (o : Option ℕ). or_else (first_of (of_shape p)) (cond (bad_width_lengths p d) (some 3) o))
      (first_append (numbers_in p dimension) (of_widths p d))

-- the length of c is asked apart from those of A and Q
pub lengths_apart : (p : Step) → bad_step_lengths p
    ≡ differs (length p.constant) p.rows || (differs (length p.linear) (p.rows * p.columns)
    || differs (length p.quadratic) (p.rows * p.columns * p.columns))
lengths_apart p =
    or_assoc (differs (length p.constant) p.rows) (differs (length p.linear) (p.rows * p.columns))
    (differs (length p.quadratic) (p.rows * p.columns * p.columns))

-- ---- what is asked of a ranged step where its shape passes: the lengths of its half-widths, its numbers, the half-widths
module _ (p : Step) (dimension : ℕ) (d : Widths) {u : ⊤} (shaped_well : Ok u ≡ examined (first_of (of_shape p))) where
  pub after-shape : {r : Examined} → r ≡ examined (after_shape p d dimension) → r ≡ examined (first_of (of_ranged_step p d dimension))
  after-shape h =
      asked-next (first_of (of_shape p)) (after_shape p d dimension) shaped_well h ∙ ap examined (sym (ranged-parts p dimension d))

  module _ (long : bad_width_lengths p d ≡ false) where
    pub after-lengths : {r : Examined} → r ≡ examined (after_lengths p d dimension) → r ≡ examined (first_of (of_ranged_step p d dimension))
    after-lengths h = after-shape (rw long h)

    pub after-numbers : {v : ⊤} → Ok v ≡ examined (first_of (numbers_in p dimension)) → {r : Examined}
        → r ≡ examined (first_of (of_widths p d)) → r ≡ examined (first_of (of_ranged_step p d dimension))
    after-numbers e h = after-lengths (asked-next (first_of (numbers_in p dimension)) (first_of (of_widths p d)) e h)

-- ---- what it says that a cause doesn't hold
pub counts_in : (p : Step) → bad_step_counts p ≡ false → (p.rows ≤ 6) × (p.columns ≤ 6)
counts_in p e = (
  within p.rows (or_left (bad_dimension p.rows) (bad_dimension p.columns) e),
  within p.columns (or_right (bad_dimension p.rows) (bad_dimension p.columns) e),
)
  where
    within : (n : ℕ) → bad_dimension n ≡ false → n ≤ 6
    within n h = ltb-false 6 n (or_right (eqb n 0) (ltb 6 n) h)

pub shape_in : (p : Step) → first_of (of_shape p) ≡ none → (bad_step_counts p ≡ false) × (bad_step_lengths p ≡ false)
unfolding first_of
shape_in p e =
    let counts = passed (bad_step_counts p) 4 e in
    (counts.0, (passed (bad_step_lengths p) 3 counts.1).0)

-- a step's shape and its numbers
pub parts_in : (p : Step) (dimension : ℕ) → first_of (of_shape p) ≡ none → first_of (numbers_in p dimension) ≡ none → StepAccepted p
unfolding first_of
parts_in p dimension e f =
    let shape = shape_in p e in
    let range = passed (bad_step_range p) 6 (passed (differs p.columns dimension) 5 f).1 in
    record { counts = shape.0; lengths = shape.1; range = range.0 }

pub step_in : (p : Step) (dimension : ℕ) → first_of (of_step p dimension) ≡ none → StepAccepted p
step_in p dimension e =
    let parts = neither (first_of (of_shape p)) (first_of (numbers_in p dimension)) (sym (step-parts p dimension) ∙ e) in
    parts_in p dimension parts.0 parts.1

-- the lengths of half-widths
pub width_lengths : (p : Step) (d : Widths) → bad_width_lengths p d ≡ false
    → (length d.linear ≡ p.rows * p.columns) × (length d.quadratic ≡ p.rows * p.columns * p.columns)
width_lengths p d e =
    let linear = differs (length d.linear) (p.rows * p.columns) in
    let quadratic = differs (length d.quadratic) (p.rows * p.columns * p.columns) in (
      equal (length d.linear) (p.rows * p.columns) (or_left linear quadratic e),
      equal (length d.quadratic) (p.rows * p.columns * p.columns) (or_right linear quadratic e),
    )

-- a ranged step that nothing refuses
pub ranged_in : (p : Step) (d : Widths) (dimension : ℕ) → first_of (of_ranged_step p d dimension) ≡ none
    → StepAccepted p × WidthsAccepted p.rows p.columns d.linear d.quadratic
unfolding first_of
ranged_in p d dimension e =
    let parts = neither (first_of (of_shape p)) (after_shape p d dimension) (sym (ranged-parts p dimension d) ∙ e) in
    let lengths = passed (bad_width_lengths p d) 3 parts.1 in
    let after = neither (first_of (numbers_in p dimension)) (first_of (of_widths p d)) lengths.1 in
    let range = (passed (bad_width_range p d) 6 after.1).0 in
    let step = parts_in p dimension parts.0 after.0 in
    let s = shaped p step in
    let l = width_lengths p d lengths.0 in
    let linear = beyond_with p.linear d.linear in
    let quadratic = beyond_with p.quadratic d.quadratic in (
      step,
      record {
        rows = s.rows;
        columns = s.columns;
        linears = l.0;
        quadratics = l.1;
        linear_small = widths_small p.linear d.linear (omega (arith, l.0, s.linears)) (or_left linear quadratic range);
        quadratic_small = widths_small p.quadratic d.quadratic (omega (arith, l.1, s.quadratics)) (or_right linear quadratic range);
      },
    )
