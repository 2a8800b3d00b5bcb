-- The laws of an unknown tag.
use mathlib.Core.Path.{refl, sym}
use mathlib.Core.Bool.{true≢false}
use native.Mathlib.Nat.{add-zero}
use native.Mathlib.Omega.{arith}
use Rattle.whole.specs.Tab.{any}
use Rattle.rational.specs.Sum as Sum
use Rattle.model.specs.Described.{within}
use Rattle.model.specs.Field.{unknown, meaning}
use Rattle.model.specs.Motion.{offset_limit, move, with_values, values_after, mark_after}
use Rattle.model.specs.Promised.{coordinates_after}
use Rattle.model.specs.Origin.{ruled}
use Rattle.model.proofs.Accepted.{holds_at}
use Rattle.model.proofs.Laws.{Laws, same_next, with_nothing, no_verdict}

pub laws : Laws unknown
unfolding meaning coordinates_after mark_after values_after move offset_limit ruled with_values holds_at within any
laws = record {
  leaves = λ b next s l h p. same_next refl (h refl);
  alone = λ e b next s u. absurd (true≢false (sym e));
  goes_on = λ e. refl;
  in_order = λ b next s bytes. refl;
  only-three = λ b next s bytes e. refl;
  leaves_coordinates = λ b next s. refl;
  answers = λ b next s. with_nothing refl refl;
  judged = λ b next s e. absurd (true≢false (sym e));
  answered-safe = λ b next s q w i e u. no_verdict refl e;
  next-counted = λ b next s. sym (add-zero next);
  fresh_range = λ b p m o c. Sum.none;
  same_fresh = λ h b. refl;
  same_move = λ h b x i. refl;
  keeps = λ b p m next s {α} {x} l w agree i h q. (h refl).1;
  folds_join = λ b next s i. omega arith;
  ruled-radius = λ b next s ρ e i h. omega (arith, e i h);
}
