-- The laws of the ranged step.
use mathlib.Core.Path.{refl, sym}
use mathlib.Core.Bool.{true≢false}
use native.Mathlib.Nat.{add-zero}
use native.Mathlib.Omega.{arith}
use Rattle.whole.specs.Tab.{any}
use Rattle.rational.specs.Sum as Sum
use Rattle.model.specs.Limits.{max_terms, max_generators, standard_weights}
use Rattle.model.specs.Step.{rounded}
use Rattle.model.specs.Ranged as Ranged
use Rattle.model.specs.Ranged.{gain, gaining_raw, gaining_step}
use Rattle.model.specs.Body.{step_columns, given_step, given_widths}
use Rattle.model.specs.Described.{within}
use Rattle.model.specs.Field.{ranged_step, meaning}
use Rattle.model.specs.Motion.{offset_limit, move, with_values, values_after, mark_after}
use Rattle.model.specs.Promised.{coordinates_after}
use Rattle.model.specs.Origin.{ruled}
use Rattle.model.proofs.Folding.{finished_at, rounded-anew}
use Rattle.model.proofs.Held.{gaining_held}
use Rattle.model.proofs.Accepted.{holds_at, same}
use Rattle.model.proofs.FinishCovers.{finish_covers}
use Rattle.model.proofs.RangedPoint.{ranged_point}
use Rattle.model.proofs.RadiusRules.{gaining_remainder, gaining_inexact, settled-radius, finished_radius, finished_in, rounded_in}
use Rattle.model.proofs.RadiusRules.{raw_in}
use Rattle.model.proofs.Coordinates.{ranged-coordinates}
use Rattle.model.proofs.Laws.{Laws, same_next, rows_in, with-box, no_verdict}

pub laws : Laws ranged_step
unfolding meaning coordinates_after mark_after values_after move offset_limit ruled with_values holds_at within any
    Ranged.ranged_step gaining_step given_step
laws = record {
  leaves = λ b next s l h p.
      let r = rows_in b (p.not_at 4) in
      same_next refl (gaining_held standard_weights (h refl) (gain (step_columns b) (given_widths b) s) (given_step b) r.0 r.1
      p.result-width);
  alone = λ e b next s u. absurd (true≢false (sym e));
  goes_on = λ e. refl;
  in_order = λ b next s bytes. refl;
  only-three = λ b next s bytes e. refl;
  leaves_coordinates = λ b next s. ranged-coordinates standard_weights (given_step b) (given_widths b) s;
  answers = λ b next s. with-box refl;
  judged = λ b next s e. absurd (true≢false (sym e));
  answered-safe = λ b next s q w i e u. no_verdict refl e;
  next-counted = λ b next s. sym (add-zero next);
  fresh_range = λ b p m o c. Sum.none;
  same_fresh = λ h b. refl;
  same_move = λ h b x i. rw (h.linear, h.quadratic);
  keeps = λ b p m next s {α} {x} l w agree i h q.
      (finish_covers standard_weights max_terms max_generators _).keeps w
      (ranged_point (given_step b) (given_widths b) s (sym (same _ _ (q.not_at 5))) w (i.coefficients refl) (h refl).1);
  folds_join = λ b next s i.
      let r = Ranged.ranged_raw (given_step b) (given_widths b) s in omega (arith, finished_at (rounded r) i, rounded-anew r i);
  ruled-radius = λ b next s ρ e i h.
      let p = given_step b in
      let gains = gain p.columns (given_widths b) s in
      let r = gaining_raw gains p s in
      let l = rounded_in r (finished_in (rounded r) h) in
      omega (
        arith,
        finished_radius (rounded r) i,
        settled-radius r i l,
        gaining_remainder gains p s i ((raw_in gains p s).1 l),
        gaining_inexact gains p s i,
      );
}
