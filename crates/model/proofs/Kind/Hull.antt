-- The laws of the hull.
use mathlib.Core.Path.{◌≡◌, refl, sym, ◌∙◌, subst, ap₂}
use mathlib.Core.Bool.{true≢false}
use native.Mathlib.Omega.{arith}
use borrow.Author.Tests.{eq-eqb}
use Rattle.whole.specs.Tab.{any}
use Rattle.rational.specs.Sum as Sum
use Rattle.rational.specs.Rational.{ℚ}
use Rattle.rational.specs.Sum.{more}
use Rattle.rational.proofs.Sum.{All-imp}
use Rattle.model.specs.Limits.{standard_weights}
use Rattle.model.specs.Step.{rounded}
use Rattle.model.specs.Hull as Hull
use Rattle.model.specs.Hull.{blended}
use Rattle.model.specs.Body.{given_set}
use Rattle.model.specs.Points.{Vector, Point}
use Rattle.model.specs.Described.{within}
use Rattle.model.specs.Field.{hull, meaning}
use Rattle.model.specs.Motion.{body_point, offset_limit, between, move, with_values, fresh_values, values_after, mark_after}
use Rattle.model.specs.Promised.{coordinates_after}
use Rattle.model.specs.Origin.{ruled}
use Rattle.model.proofs.Folding.{finished_at, rounded-anew}
use Rattle.model.proofs.Held.{valid_ready, hull-held}
use Rattle.model.proofs.Accepted.{holds_at, same, given-dimension, given_valid}
use Rattle.model.proofs.Values.{same-values}
use Rattle.model.proofs.HullPoint.{hull_point}
use Rattle.model.proofs.RadiusRules.{blended-remainder, settled-radius, finished_radius, finished_in, rounded_in, blended_in}
use Rattle.model.proofs.Coordinates.{hull-coordinates}
use Rattle.model.proofs.Laws.{Laws, file_in, with-box, no_verdict, body-point, body_same, file_agrees, agree_below, rising}
use Rattle.model.proofs.Laws.{old_value, values_range}

pub laws : Laws hull
unfolding meaning coordinates_after mark_after values_after move offset_limit ruled with_values holds_at within any Hull.hull
laws = record {
  leaves = λ b next s l h p.
      let v = given_valid b _ _ _ _ _ p in
      record {
        holds = hull-held standard_weights (h refl) (omega arith) (valid_ready v) (given-dimension b ∙ same _ _ (p.not_at 5))
            (file_in l v) (p.not_at 9) p.result-width;
        no_less = omega arith;
        at_most = omega arith;
      };
  alone = λ e b next s u. absurd (true≢false (sym e));
  goes_on = λ e. refl;
  in_order = λ b next s bytes. refl;
  only-three = λ b next s bytes e. refl;
  leaves_coordinates = λ b next s. hull-coordinates standard_weights next s (given_set b);
  answers = λ b next s. with-box refl;
  judged = λ b next s e. absurd (true≢false (sym e));
  answered-safe = λ b next s q w i e u. no_verdict refl e;
  next-counted = λ b next s. refl;
  fresh_range = λ b p m o c. more c Sum.none;
  same_fresh = λ h b. rw h.blend;
  same_move = λ h b x i. ap₂ (λ (c : ℚ) (y : Vector). between c x y i) h.blend (body_same h (given_set b) h.values);
  keeps = λ b p m next s {α} {x} l w agree i h q.
      let v = given_valid b _ _ _ _ _ q in
      let γ : Vector = with_values (fresh_values hull b p m) next α in
      let e : γ next ≡ p.blend m = rw (eq-eqb next next refl) in
      let old = old_value (fresh_values hull b p m) next α in
      let s-in = (same-values {s = s} {α = α} {β = γ} (All-imp (λ k h. sym (old k h.1)) (h refl).0.identifiers_in)).0 (h refl).1 in
      let u-in = (same-values {s = given_set b} {α = p.values} {β = γ} (file_agrees p (agree_below p {γ = γ} l agree old) v)).0
      (body-point p m (given_set b) p.values i.numbers i.offsets) in
      subst (λ (c : ℚ). Point (Hull.hull standard_weights next s (given_set b)) γ
      (between c x (body_point p m (given_set b) p.values))) e
      (hull_point standard_weights next (values_range (fresh_values hull b p m) next (more i.blend Sum.none) w)
      (rising (h refl).0.ordered)
      (sym (given-dimension b ∙ same _ _ (q.not_at 5))) s-in u-in);
  folds_join = λ b next s i. omega (
    arith,
    finished_at (rounded (Hull.blended next s (given_set b))) i,
    rounded-anew (Hull.blended next s (given_set b)) i,
  );
  ruled-radius = λ b next s ρ e i h.
      let u = given_set b in
      let r = blended next s u in
      let l = rounded_in r (finished_in (rounded r) h) in
      omega (arith, finished_radius (rounded r) i, settled-radius r i l, blended-remainder next s u i (blended_in next s u l));
}
