-- The laws of the independent sum.
use mathlib.Core.Path.{◌≡◌, refl, sym, ◌∙◌, ap, ap₂}
use mathlib.Core.List.{List, [], ◌∷◌, map}
use mathlib.Core.Bool.{true≢false}
use Prim.Native.Nat.{ℕ, ◌+◌}
use native.Mathlib.Omega.{arith}
use lib.ListN.{length-map}
use Rattle.whole.specs.Tab.{any}
use Rattle.rational.specs.Sum as Sum
use Rattle.rational.specs.Rational.{ℚ, 1ℚ, ◌+ℚ◌}
use Rattle.rational.specs.Bounds.{Within}
use Rattle.rational.specs.Sum.{All, more}
use Rattle.rational.proofs.Sum.{All-imp, All-map}
use Rattle.model.specs.Limits.{standard_weights}
use Rattle.model.specs.Operations.{joined, tied_sum, renumbered, independent_sum}
use Rattle.model.specs.Body.{given_set}
use Rattle.model.specs.Points.{Vector, InRange}
use Rattle.model.specs.Described.{within}
use Rattle.model.specs.Field.{independent, meaning}
use Rattle.model.specs.Motion.{Picks, offset_limit, move, with_values, fresh_values, values_after, mark_after}
use Rattle.model.specs.Promised.{coordinates_after}
use Rattle.model.specs.Origin.{ruled}
use Rattle.model.proofs.Shape.{counted}
use Rattle.model.proofs.Folding.{finished_at, sum-goes_on, given_none}
use Rattle.model.proofs.Held.{held_up, valid_ready, independent_held}
use Rattle.model.proofs.Accepted.{holds_at, same, given-dimension, given-factors, given_valid}
use Rattle.model.proofs.SumPoints.{independent_point}
use Rattle.model.proofs.RadiusRules.{given-radius, renumbered-radius, joined-radius, finished_radius, finished_in, joined_in}
use Rattle.model.proofs.Coordinates.{independent_coordinates}
use Rattle.model.proofs.Laws.{Laws, SameAt, with-box, no_verdict, body-point, body_same, rising, old_value, new_value}
use Rattle.model.proofs.Laws.{values_range}

abbrev own : ℕ → Picks → ℕ → ℚ
own k p m = p.own m k

everywhere : (ks : List ℕ) {β : Vector} → InRange β → All (λ k. Within (β k) 1ℚ) ks
everywhere [] w = Sum.none
everywhere (k ∷ ks) w = more (w k) (everywhere ks w)

own_range : (b : List ℕ) (p : Picks) (m : ℕ) → InRange (p.own m) → All (λ c. Within c 1ℚ) (fresh_values independent b p m)
own_range b p m o = All-map (λ v. v p m) (All-map own (everywhere (given_set b).identifiers o))

-- the values of the same picks
own_same : (ks : List ℕ) {p q : Picks} {m : ℕ} → SameAt p q m → map (λ c. c p m) (map own ks) ≡ map (λ c. c q m) (map own ks)
own_same [] h = refl
own_same (k ∷ ks) h = ap₂ ◌∷◌ (ap (λ (β : Vector). β k) h.own) (own_same ks h)

pub laws : Laws independent
unfolding meaning coordinates_after mark_after values_after move offset_limit ruled with_values holds_at within any independent_sum tied_sum
laws = record {
  leaves = λ b next s l h p.
      let v = given_valid b _ _ _ _ _ p in
      let few = (counted (given_set b) v.counts).factors_few in
      let n = given-factors b in
      record {
        holds = held_up (omega arith)
            (independent_held standard_weights (h refl) (omega arith) (valid_ready v)
            (given-dimension b ∙ same _ _ (p.not_at 5)) (p.not_at 9) p.result-width);
        no_less = omega arith;
        at_most = omega arith;
      };
  alone = λ e b next s u. absurd (true≢false (sym e));
  goes_on = λ e. refl;
  in_order = λ b next s bytes. refl;
  only-three = λ b next s bytes e. refl;
  leaves_coordinates = λ b next s. independent_coordinates standard_weights next s (given_set b);
  answers = λ b next s. with-box refl;
  judged = λ b next s e. absurd (true≢false (sym e));
  answered-safe = λ b next s q w i e u. no_verdict refl e;
  next-counted = λ b next s. ap (next +◌) (sym (length-map (given_set b).identifiers own ∙ given-factors b));
  fresh_range = λ b p m o c. own_range b p m o;
  same_fresh = λ h b. own_same (given_set b).identifiers h;
  same_move = λ h b x i. ap (λ (y : Vector). x i +ℚ y i) (body_same h (given_set b) h.own);
  keeps = λ b p m next s {α} {x} l w agree i h q.
      let cs = fresh_values independent b p m in
      independent_point standard_weights next (values_range cs next (own_range b p m i.own) w) (rising (h refl).0.ordered)
      (sym (given-dimension b ∙ same _ _ (q.not_at 5))) (All-imp (λ k h. h.1) (h refl).0.identifiers_in)
      (old_value cs next α) (new_value own p m (given_set b).identifiers 0 next α) (h refl).1
      (body-point p m (given_set b) (p.own m) i.numbers i.offsets);
  folds_join = λ b next s i.
      let u = renumbered next (given_set b) in
      omega (arith, finished_at (joined s u) i, sum-goes_on s u i (given_none b next i).1);
  ruled-radius = λ b next s ρ e i h.
      let u = renumbered next (given_set b) in
      let l = joined_in s u (finished_in (joined s u) h) in
      omega (arith, finished_radius (joined s u) i, joined-radius s u i, renumbered-radius next (given_set b) i, given-radius b i, e i l);
}
