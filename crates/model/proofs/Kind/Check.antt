-- The laws of the check.
use mathlib.Core.Path.{◌≡◌, refl, sym, subst}
use mathlib.Core.Bool.{true, true≢false}
use native.Mathlib.Nat.{add-zero}
use native.Mathlib.Omega.{arith}
use lib.Dec.{T}
use Rattle.whole.specs.Tab.{any}
use Rattle.rational.specs.Sum as Sum
use Rattle.model.specs.Operations.{safe}
use Rattle.model.specs.Body.{given_halfspaces}
use Rattle.model.specs.Described.{within}
use Rattle.model.specs.Field.{check, meaning}
use Rattle.model.specs.Motion.{offset_limit, move, with_values, values_after, mark_after, Unsafe}
use Rattle.model.specs.Promised.{coordinates_after}
use Rattle.model.specs.Origin.{ruled}
use Rattle.model.proofs.Accepted.{holds_at, same}
use Rattle.model.proofs.SafePoint.{safe_point}
use Rattle.model.proofs.Laws.{Laws, same_next, with_verdict}

pub laws : Laws check
unfolding meaning coordinates_after mark_after values_after move offset_limit ruled with_values holds_at within any
laws = record {
  leaves = λ b next s l h p. same_next refl (h refl);
  alone = λ e b next s u. absurd (true≢false (sym e));
  goes_on = λ e. refl;
  in_order = λ b next s bytes. refl;
  only-three = λ b next s bytes e. refl;
  leaves_coordinates = λ b next s. refl;
  answers = λ b next s. with_verdict (safe (given_halfspaces b) s) refl;
  judged = λ b next s e. refl;
  answered-safe = λ b next s {α} {x} q w i e u.
      let t : safe (given_halfspaces b) s ≡ true = cc in
      safe_point (given_halfspaces b) w i (subst T (sym t) tt) (subst (λ n. Unsafe (given_halfspaces b) n x) (same _ _ (q.not_at 5))
      u);
  next-counted = λ b next s. sym (add-zero next);
  fresh_range = λ b p m o c. Sum.none;
  same_fresh = λ h b. refl;
  same_move = λ h b x i. refl;
  keeps = λ b p m next s {α} {x} l w agree i h q. (h refl).1;
  folds_join = λ b next s i. omega arith;
  ruled-radius = λ b next s ρ e i h. omega (arith, e i h);
}
