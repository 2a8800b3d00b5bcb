-- The laws of a reduction.
use mathlib.Core.Path.{refl, sym}
use mathlib.Core.Bool.{true≢false}
use native.Mathlib.Nat.{add-zero}
use native.Mathlib.Omega.{arith}
use borrow.Author.Tests.{ltb-false}
use lib.Dec.{ltb}
use Rattle.whole.specs.Tab.{any}
use Rattle.rational.specs.Sum as Sum
use Rattle.model.specs.Limits.{max_terms, max_generators, standard_weights}
use Rattle.model.specs.Operations.{reduce}
use Rattle.model.specs.Body.{term_count_limit, generator_count_limit}
use Rattle.model.specs.Described.{within}
use Rattle.model.specs.Field.{reduction, meaning}
use Rattle.model.specs.Motion.{offset_limit, move, with_values, values_after, mark_after}
use Rattle.model.specs.Promised.{coordinates_after}
use Rattle.model.specs.Origin.{ruled}
use Rattle.model.proofs.Tests.{or_false}
use Rattle.model.proofs.Folding.{folded_at, finish-radius}
use Rattle.model.proofs.Held.{reduce-held}
use Rattle.model.proofs.Accepted.{holds_at}
use Rattle.model.proofs.FinishCovers.{finish_covers}
use Rattle.model.proofs.RadiusRules.{reduced_in}
use Rattle.model.proofs.Coordinates.{reduced-coordinates}
use Rattle.model.proofs.Laws.{Laws, same_next, with-box, no_verdict}

pub laws : Laws reduction
unfolding meaning coordinates_after mark_after values_after move offset_limit ruled with_values holds_at within any reduce
laws = record {
  leaves = λ b next s l h p.
      let c = or_false (ltb max_terms (term_count_limit b)) (ltb max_generators (generator_count_limit b)) (p.not_at 4) in
      same_next refl (reduce-held standard_weights (h refl) (ltb-false _ _ c.0) (ltb-false _ _ c.1) p.result-width);
  alone = λ e b next s u. absurd (true≢false (sym e));
  goes_on = λ e. refl;
  in_order = λ b next s bytes. refl;
  only-three = λ b next s bytes e. refl;
  leaves_coordinates = λ b next s. reduced-coordinates standard_weights (term_count_limit b) (generator_count_limit b) s;
  answers = λ b next s. with-box refl;
  judged = λ b next s e. absurd (true≢false (sym e));
  answered-safe = λ b next s q w i e u. no_verdict refl e;
  next-counted = λ b next s. sym (add-zero next);
  fresh_range = λ b p m o c. Sum.none;
  same_fresh = λ h b. refl;
  same_move = λ h b x i. refl;
  keeps = λ b p m next s {α} {x} l w agree i h q. (finish_covers standard_weights (term_count_limit b) (generator_count_limit b) s).keeps w (h refl).1;
  folds_join = λ b next s i. folded_at standard_weights (term_count_limit b) (generator_count_limit b) s i;
  ruled-radius = λ b next s ρ e i h.
      let l = reduced_in standard_weights (term_count_limit b) (generator_count_limit b) s h in
      omega (arith, finish-radius standard_weights (term_count_limit b) (generator_count_limit b) s i, e i l);
}
