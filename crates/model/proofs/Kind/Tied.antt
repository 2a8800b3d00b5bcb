-- The laws of the tied sum.
use mathlib.Core.Path.{refl, sym, ◌∙◌, ap}
use mathlib.Core.Bool.{true≢false}
use native.Mathlib.Nat.{add-zero}
use native.Mathlib.Omega.{arith}
use Rattle.whole.specs.Tab.{any}
use Rattle.rational.specs.Sum as Sum
use Rattle.rational.specs.Rational.{◌+ℚ◌}
use Rattle.model.specs.Limits.{standard_weights}
use Rattle.model.specs.Operations.{joined, tied_sum}
use Rattle.model.specs.Body.{given_set}
use Rattle.model.specs.Points.{Vector}
use Rattle.model.specs.Described.{within}
use Rattle.model.specs.Field.{tied, meaning}
use Rattle.model.specs.Motion.{offset_limit, move, with_values, values_after, mark_after}
use Rattle.model.specs.Promised.{coordinates_after}
use Rattle.model.specs.Origin.{ruled}
use Rattle.model.proofs.Folding.{finished_at, sum-goes_on, given_none}
use Rattle.model.proofs.Held.{valid_ready, sum-held}
use Rattle.model.proofs.Accepted.{holds_at, same, given-dimension, given_valid}
use Rattle.model.proofs.Values.{same-values}
use Rattle.model.proofs.SumPoints.{tied_point}
use Rattle.model.proofs.RadiusRules.{given-radius, joined-radius, finished_radius, finished_in, joined_in}
use Rattle.model.proofs.Coordinates.{tied-coordinates}
use Rattle.model.proofs.Laws.{Laws, same_next, file_in, with-box, no_verdict, body-point, body_same, file_agrees, rising}

pub laws : Laws tied
unfolding meaning coordinates_after mark_after values_after move offset_limit ruled with_values holds_at within any tied_sum
laws = record {
  leaves = λ b next s l h p.
      let v = given_valid b _ _ _ _ _ p in
      same_next refl (sum-held standard_weights (h refl) (valid_ready v) (given-dimension b ∙ same _ _ (p.not_at 5))
      (file_in l v) (p.not_at 9) p.result-width);
  alone = λ e b next s u. absurd (true≢false (sym e));
  goes_on = λ e. refl;
  in_order = λ b next s bytes. refl;
  only-three = λ b next s bytes e. refl;
  leaves_coordinates = λ b next s. tied-coordinates standard_weights s (given_set b);
  answers = λ b next s. with-box refl;
  judged = λ b next s e. absurd (true≢false (sym e));
  answered-safe = λ b next s q w i e u. no_verdict refl e;
  next-counted = λ b next s. sym (add-zero next);
  fresh_range = λ b p m o c. Sum.none;
  same_fresh = λ h b. refl;
  same_move = λ h b x i. ap (λ (y : Vector). x i +ℚ y i) (body_same h (given_set b) h.values);
  keeps = λ b p m next s {α} {x} l w agree i h q.
      let v = given_valid b _ _ _ _ _ q in
      let y = (same-values (file_agrees p agree v)).0 (body-point p m (given_set b) p.values i.numbers i.offsets) in
      tied_point standard_weights w (rising (h refl).0.ordered) (sym (given-dimension b ∙ same _ _ (q.not_at 5))) (h refl).1 y;
  folds_join = λ b next s i. omega (arith, finished_at (joined s (given_set b)) i, sum-goes_on s (given_set b) i (given_none b next i).0);
  ruled-radius = λ b next s ρ e i h.
      let u = given_set b in
      let l = joined_in s u (finished_in (joined s u) h) in
      omega (arith, finished_radius (joined s u) i, joined-radius s u i, given-radius b i, e i l);
}
