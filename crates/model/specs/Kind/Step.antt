-- The polynomial step.
use Rattle.std.specs.Prelude.{[], true, ◌+◌}
use Rattle.model.specs.Limits.{standard_weights}
use Rattle.model.specs.Step as Step
use Rattle.model.specs.Step.{raw, remainder, inexact_at}
use Rattle.model.specs.Body.{step_rows, step_length, given_step}
use Rattle.model.specs.Moving.{image}
use Rattle.model.specs.Described.{bad_step_range, of_step_body, folds_of, units_of, half_of, Described}

abbrev pub kind : Described
kind = record {
  -- ---- what the field does
  tag = 2;
  meaning = λ b next s.
      of_step_body b (step_length b) (bad_step_range (given_step b)) s next (Step.step standard_weights (given_step b) s)
      (folds_of (Step.rounded (Step.raw (given_step b) s)));
  anew = true;
  works = true;
  ruled = λ b next s ρ i. let p = given_step b in units_of (remainder p s i) + half_of (inexact_at (raw p s) i);
  -- ---- where a motion goes
  offset_limit = λ b i. 0;
  move = λ b p m x i. image (given_step b) x i;
  coordinates = λ b n. step_rows b;
  fresh = λ b. [];
}
