-- A motion that keeps its limits at some first fields can be gone on with so that it keeps them at all, and where it is after those first
-- fields stays the same. So the promise holds of a motion that keeps its limits at the accepted fields.
use mathlib.Core.Path.{◌≡◌, refl, ap, ap₂, ◌∙◌, subst, fun_ext}
use mathlib.Core.Bool.{Bool, true, false, cond}
use mathlib.Core.List.{List, [], ◌∷◌}
use Prim.Native.Nat.{ℕ, zero, suc, ◌+◌, ◌<◌}
use native.Mathlib.Omega.{arith}
use borrow.Author.Tests.{lt-ltb, ltb-true}
use lib.Dec.{ltb}
use lib.ListN.{get_or}
use lib.IntN.{pos}
use Rattle.rational.specs.Rational.{ℚ, ι, 1ℚ}
use Rattle.rational.specs.Bounds.{Within}
use Rattle.model.specs.Body.{given_step, given_widths}
use Rattle.model.specs.Field.{Kind, ranged_step}
use Rattle.model.specs.Run.{tag, body, kind_of, accepted, after, fields}
use Rattle.model.specs.Points.{Vector, InRange}
use Rattle.model.specs.Motion.{Picks, offset_limit, Allowed, InWidths, Moment, beginning, with_values, values_after, mark_after, follow}
use Rattle.model.specs.Reading.{line_at}
use Rattle.model.specs.Promised.{accepted_fields, field_at, coordinates, moment_from, position, TrueOf, Promised, AllowedBefore}
use Rattle.model.proofs.Laws.{SameAt}
use Rattle.model.proofs.Kind.{laws}
use Rattle.model.proofs.SomeMotion.{some_motion}

module _ {p q : Picks} {m : ℕ} (h : SameAt p q m) where
  same-values : (k : Kind) (b : List ℕ) (next : ℕ) (α : Vector) → values_after k b p m next α ≡ values_after k b q m next α
  unfolding values_after
  same-values k b next α = fun_ext (λ i. ap (λ cs. with_values cs next α i) ((laws k).same_fresh h b))

  same-follow : (now : Moment) (f : List ℕ) → follow p m now f ≡ follow q m now f
  unfolding follow
  same-follow now f =
      let k = kind_of (tag f) in let b = body f in let yes = accepted now.state f in
      ap₂ (λ (v x : Vector). record {
        state = after now.state f;
        mark = cond yes (mark_after k b now.mark) now.mark;
        values = cond yes v now.values;
        position = cond yes x now.position;
      }) (same-values k b now.mark now.values) (fun_ext ((laws k).same_move h b now.position))

-- so they are at the same places
same-moment : (p q : Picks) (n k : ℕ) (now : Moment) (fs : List (List ℕ)) (m : ℕ) → k + m < n → ((j : ℕ) → j < n → SameAt p q j)
    → moment_from p k now fs m ≡ moment_from q k now fs m
unfolding moment_from
same-moment p q n k now [] m l h = refl
same-moment p q n k now (f ∷ fs) zero l h = same-follow (h k (omega arith)) now f
same-moment p q n k now (f ∷ fs) (suc m) l h =
    ap (λ x. moment_from p (suc k) x fs m) (same-follow (h k (omega arith)) now f)
    ∙ same-moment p q n (suc k) (follow q k now f) fs m (omega arith) h

-- ---- p at the first n fields, q from there on
unfoldable up_to : ℕ → Picks → Picks → Picks
up_to n p q = record {
  values = p.values;
  own = λ m. cond (ltb m n) (p.own m) (q.own m);
  numbers = λ m. cond (ltb m n) (p.numbers m) (q.numbers m);
  offsets = λ m. cond (ltb m n) (p.offsets m) (q.offsets m);
  blend = λ m. cond (ltb m n) (p.blend m) (q.blend m);
  linear = λ m. cond (ltb m n) (p.linear m) (q.linear m);
  quadratic = λ m. cond (ltb m n) (p.quadratic m) (q.quadratic m);
}

up_to-same : (n : ℕ) (p q : Picks) (m : ℕ) → m < n → SameAt (up_to n p q) p m
unfolding up_to
up_to-same n p q m l = let e = lt-ltb m n l in record {
  values = refl;
  own = rw e;
  numbers = rw e;
  offsets = rw e;
  blend = rw e;
  linear = rw e;
  quadratic = rw e;
}

-- what holds of both holds of the one that is taken
by_place : {A : Type 0} (P : A → Type 0) (n m : ℕ) {x y : A} → (m < n → P x) → P y → P (cond (ltb m n) x y)
by_place P n m {x} {y} f h = go (ltb m n) refl
  where
    go : (b : Bool) → ltb m n ≡ b → P (cond b x y)
    go true e = f (ltb-true m n e)
    go false e = h

up_to_allowed : (n : ℕ) (p q : Picks) (fs : List (List ℕ)) → AllowedBefore n p fs → Allowed q fs → Allowed (up_to n p q) fs
unfolding up_to
up_to_allowed n p q fs a b = record {
  values = a.values;
  own = λ m. by_place InRange n m (a.own m) (b.own m);
  numbers = λ m j. by_place (λ (x : ℕ → ℚ). Within (x j) 1ℚ) n m (a.numbers m j) (b.numbers m j);
  blend = λ m. by_place (λ x. Within x 1ℚ) n m (a.blend m) (b.blend m);
  offsets = λ m i. by_place (λ (x : Vector). Within (x i) (ι (pos (offset_limit (kind_of (tag (get_or fs m []))) (body (get_or fs m [])) i)))) n m
      (a.offsets m i) (b.offsets m i);
  coefficients = λ m r. both m r (ltb m n) refl;
}
  where
    both : (m : ℕ) → kind_of (tag (get_or fs m [])) ≡ ranged_step → (c : Bool) → ltb m n ≡ c
        → InWidths (given_step (body (get_or fs m []))) (given_widths (body (get_or fs m []))) (cond c (p.linear m) (q.linear m))
        (cond c (p.quadratic m) (q.quadratic m))
    both m r true e = a.coefficients m (ltb-true m n e) r
    both m r false e = b.coefficients m r

-- What an output that keeps the promise says is true of every motion that keeps its limits at the accepted fields, whatever it would pick
-- after them.
pub true_of_accepted : (input output : List ℕ) → Promised input output → (p : Picks)
    → AllowedBefore (accepted_fields input) p (fields input) → (m : ℕ) → m < accepted_fields input
    → TrueOf (field_at input m) (coordinates input m) (position p input m) (line_at output m)
unfolding up_to
true_of_accepted input output kept p a m h =
    let n = accepted_fields input in let fs = fields input in let s = some_motion fs in let r = up_to n p s.0 in
    let same = same-moment r p n 0 (beginning p) fs m (omega arith) (up_to-same n p s.0) in
    subst (λ (x : Moment). TrueOf (field_at input m) (coordinates input m) x.position (line_at output m)) same
    ((kept.in_order m h).true_of_motions r (up_to_allowed n p s.0 fs a s.1))
