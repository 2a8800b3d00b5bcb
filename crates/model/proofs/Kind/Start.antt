-- The laws of the start set.
use mathlib.Core.Path.{refl, sym, ap}
use mathlib.Core.Bool.{true≢false}
use native.Mathlib.Nat.{add-zero}
use native.Mathlib.Omega.{arith}
use Rattle.whole.specs.Tab.{any}
use Rattle.rational.specs.Sum as Sum
use Rattle.rational.proofs.Sum.{All-imp}
use Rattle.model.specs.Body.{given_set}
use Rattle.model.specs.Points.{Vector}
use Rattle.model.specs.Described.{within}
use Rattle.model.specs.Field.{start, meaning}
use Rattle.model.specs.Motion.{offset_limit, move, with_values, values_after, mark_after}
use Rattle.model.specs.Promised.{coordinates_after}
use Rattle.model.specs.Origin.{ruled}
use Rattle.model.proofs.Folding.{given_none}
use Rattle.model.proofs.Held.{held}
use Rattle.model.proofs.Accepted.{holds_at, given-dimension, given_valid}
use Rattle.model.proofs.Values.{same-values}
use Rattle.model.proofs.RadiusRules.{given-radius}
use Rattle.model.proofs.Laws.{Laws, same_next, file_in, with-box, no_verdict, body-point, body_same, file_agrees}

pub laws : Laws start
unfolding meaning coordinates_after mark_after values_after move offset_limit ruled with_values holds_at within any
laws = record {
  leaves = λ b next s l h p.
      let v = given_valid b _ _ _ _ _ p in
      same_next refl (held next v (All-imp (λ k i. i.1) (file_in l v)));
  alone = λ e b next s u. refl;
  goes_on = λ e. absurd (true≢false e);
  in_order = λ b next s bytes. refl;
  only-three = λ b next s bytes e. refl;
  leaves_coordinates = λ b next s. given-dimension b;
  answers = λ b next s. with-box refl;
  judged = λ b next s e. absurd (true≢false (sym e));
  answered-safe = λ b next s q w i e u. no_verdict refl e;
  next-counted = λ b next s. sym (add-zero next);
  fresh_range = λ b p m o c. Sum.none;
  same_fresh = λ h b. refl;
  same_move = λ h b x i. ap (λ (y : Vector). y i) (body_same h (given_set b) h.values);
  keeps = λ b p m next s {α} {x} l w agree i h q.
      let v = given_valid b _ _ _ _ _ q in
      (same-values (file_agrees p agree v)).0 (body-point p m (given_set b) p.values i.numbers i.offsets);
  folds_join = λ b next s i. omega (arith, (given_none b next i).0);
  ruled-radius = λ b next s ρ e i h. omega (arith, given-radius b i);
}
