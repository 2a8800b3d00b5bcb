-- What is asked of a step: that none of the causes 4, 3 and 6 of refusal holds, each as `step_refusal` tests it.
use Rattle.std.specs.Prelude.{false, ◌||◌, List, ◌≡◌, ℕ, ◌*◌, ◌≤◌, ltb, eqb, ℤ, length}
use Rattle.std.proofs.Common.{ltb-false, eqb-true}
use Rattle.std.proofs.lemmas.Bool.{not-false}
use Rattle.whole.specs.Tab.{any}
use Rattle.model.proofs.Tests.{or_false}
use Rattle.rows.specs.Rows.{Small}
use Rattle.model.specs.Limits.{max_entry, max_constant}
use Rattle.model.specs.Step.{Step}
use Rattle.model.specs.Field.{bad_dimension, beyond, differs, bad_step_range}
use Rattle.model.specs.Library.{bad_step_counts, bad_step_lengths}
use Rattle.forms.specs.Wide.{StepShaped}
use Rattle.raw.specs.Tests.{none_beyond}

-- a count out of limits, a list whose length the counts don't give, an entry out of range: none of these
pub record StepAccepted (p : Step) : Type 0 where
  pub counts : bad_step_counts p ≡ false
  pub lengths : bad_step_lengths p ≡ false
  pub range : bad_step_range p ≡ false

-- the step's numbers in lists
abbrev pub step_of : ℕ → ℕ → List ℤ → List ℤ → List ℤ → Step
step_of m n c a q = record { rows = m; columns = n; constant = c; linear = a; quadratic = q }

-- ---- what that says
dimension_in : (n : ℕ) → bad_dimension n ≡ false → n ≤ 6
dimension_in n h = ltb-false 6 n (or_false (eqb n 0) (ltb 6 n) h).1

same : (m n : ℕ) → differs m n ≡ false → m ≡ n
same m n h = eqb-true m n (not-false (eqb m n) h)

module _ (p : Step) (ok : StepAccepted p) where
  pub shaped : StepShaped p
  shaped =
      let n = or_false (bad_dimension p.rows) (bad_dimension p.columns) ok.counts in
      let constant = differs (length p.constant) p.rows in
      let linear = differs (length p.linear) (p.rows * p.columns) in
      let quadratic = differs (length p.quadratic) (p.rows * p.columns * p.columns) in
      let l = or_false (constant || linear) quadratic ok.lengths in
      let k = or_false constant linear l.0 in record {
        rows = dimension_in p.rows n.0;
        columns = dimension_in p.columns n.1;
        constants = same (length p.constant) p.rows k.0;
        linears = same (length p.linear) (p.rows * p.columns) k.1;
        quadratics = same (length p.quadratic) (p.rows * p.columns * p.columns) l.1;
      }

  pub entries_small : Small max_constant p.constant × Small max_entry p.linear × Small max_entry p.quadratic
  entries_small =
      let constant = any (beyond max_constant) p.constant in
      let linear = any (beyond max_entry) p.linear in
      let quadratic = any (beyond max_entry) p.quadratic in
      let r = or_false (constant || linear) quadratic ok.range in
      let k = or_false constant linear r.0 in
      (none_beyond max_constant p.constant k.0, none_beyond max_entry p.linear k.1, none_beyond max_entry p.quadratic r.1)
