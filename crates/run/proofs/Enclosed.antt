-- Demand 3 of the records that are returned. It follows from `enclosed` over the definitions, since a call with room returns the record of
-- what they give, and one without room the state as it came. The statement is `Enclosed` (specs/Enclosed.antt).
use mathlib.Core.Path.{◌≡◌, refl, sym, subst}
use mathlib.Core.List.{List, [], ◌∷◌}
use mathlib.Core.Option.{Option, none, some}
use mathlib.Core.Bool.{Bool, true, false, cond, true≢false}
use Prim.Native.Nat.{ℕ, suc, ◌<◌, ◌≤◌}
use native.Mathlib.Omega.{arith}
use lib.Dec.{T}
use lib.ListN.{length}
use lib.IntN.{pos}
use Rattle.whole.specs.Tab.{get_d_tab}
use Rattle.rational.specs.Rational.{ι, ◌≤ℚ◌}
use Rattle.model.specs.Set.{at}
use Rattle.model.specs.Run as Model
use Rattle.model.specs.Run.{tag, body, kind_of, meant, refusal, accepted, accepted_by, refused_at, after, answer, outcome, first_field}
use Rattle.model.specs.Points.{Vector, Point}
use Rattle.model.specs.Motion as Motion
use Rattle.model.specs.Motion.{Picks, InBox, move, values_after, mark_after}
use Rattle.model.proofs.Shape.{counted}
use Rattle.model.proofs.Sound.{Sound, begin_sound, after_sound}
use Rattle.model.proofs.Enclosed as Over
use Rattle.zonotope.specs.Record.{pack}
use Rattle.states.specs.declared.Fielded.{Fielded}
use Rattle.states.specs.State.{record_of}
use Rattle.states.specs.Answer.{outcome_of, box_of, answer_of, unfit_answer, accepts}
use Rattle.run.specs.Enclosed.{Call, short, fields_taken, Moment, follow, InEnds, Kept, Always, Enclosed}
use Rattle.states.proofs.Recorded.{means}
use Rattle.run.proofs.Reached.{fielded_is, short_is}
use Rattle.run.proofs.Accepts.{accepts_is, inside_is, safe_is}

-- what a call with room and the record of u returns
abbrev pub given : ℕ → Model.State → List ℕ → Fielded
given place u f = record { answer = answer_of (answer place u f) (length f); state = record_of (after u f) }

-- the box of the definitions is the one that stands in the answer
in_ends : {n : ℕ} {x : Vector} (a : Model.Answer) (bytes : ℕ) → n ≤ 6 → InBox n x (box_of a.outcome) → InEnds n x (answer_of a bytes)
unfolding answer_of
in_ends {n} {x} a bytes few b = record {
  sides = b.sides.0;
  above = λ i h. subst (λ z. ι z ≤ℚ x i) (sym (get_d_tab 6 (at (box_of a.outcome).lows) (pos 0) i (omega arith))) (b.above i h);
  below = λ i h. subst (λ z. x i ≤ℚ ι z) (sym (get_d_tab 6 (at (box_of a.outcome).highs) (pos 0) i (omega arith))) (b.below i h);
}

-- an accepted field adds one to the count
counts : (u : Model.State) (f : List ℕ) → T (accepted u f) → 0 < (after u f).count
unfolding accepted after
counts u f = go u.over (refusal u f)
  where
    go : (b : Bool) (o : Option ℕ) → T (cond b false (elim o [ none ↦ true | some n ↦ false ])) → 0 < (cond b u (elim o [
      | none ↦ accepted_by u (meant u f)
      | some n ↦ refused_at u
    ])).count
    go true o t = absurd t
    go false none t = omega arith
    go false (some n) t = absurd t

-- the motion beside the record of its state
abbrev pub alongside : Motion.Moment → Moment
alongside now = record { state = record_of now.state; mark = now.mark; values = now.values; position = now.position }

module _ (p : Picks) (m place : ℕ) (now : Motion.Moment) (s : Sound now.state) (f : List ℕ) where
  -- a motion goes the same way
  follow_is : follow p m (alongside now) f (given place now.state f) ≡ alongside (Motion.follow p m now f)
  unfolding follow Motion.follow answer_of
  follow_is = go (accepts (outcome_of (outcome place now.state f))) (accepted now.state f) (accepts_is place now.state f)
    where
      go : (x y : Bool) → x ≡ y → ◌≡◌ {A = Moment} (record {
        state = record_of (after now.state f);
        mark = cond x (mark_after (kind_of (tag f)) (body f) now.mark) now.mark;
        values = cond x (values_after (kind_of (tag f)) (body f) p m now.mark now.values) now.values;
        position = cond x (move (kind_of (tag f)) (body f) p m now.position) now.position;
      }) (record {
        state = record_of (after now.state f);
        mark = cond y (mark_after (kind_of (tag f)) (body f) now.mark) now.mark;
        values = cond y (values_after (kind_of (tag f)) (body f) p m now.mark now.values) now.values;
        position = cond y (move (kind_of (tag f)) (body f) p m now.position) now.position;
      })
      go x y e = rw e

  -- what holds of the definitions holds of the records
  pub kept : T (accepted now.state f) → Motion.Kept now.state f (Motion.follow p m now f)
      → Kept f (given place now.state f) (alongside (Motion.follow p m now f))
  unfolding Motion.follow answer_of pack
  kept t k =
      let u = now.state in let then = Motion.follow p m now f in
      let valid = (after_sound s f).valid (counts u f t) in
      record {
        in_set = subst (λ s. Point s then.values then.position) (sym (means valid)) k.in_set;
        in_box = λ e. in_ends (answer place u f) (length f) (counted _ valid.counts).dimension_few
            (k.in_box place _ (inside_is (outcome place u f) e));
        not_unsafe = λ e. k.not_unsafe place (safe_is (outcome place u f) e);
      }

-- what the definitions keep over the fields taken, the calls keep
Follows : Picks → List Call → Type 0
Follows p calls = (m : ℕ) (now : Motion.Moment) → Sound now.state
    → Motion.Always p m now (fields_taken calls) → Always p m (alongside now) calls

-- one more call, by whether a slice is too short
one_more : (p : Picks) (c : Call) (cs : List Call) → Follows p cs → Follows p (c ∷ cs)
unfolding Follows Always fields_taken Motion.Always Motion.follow follow answer_of unfit_answer
one_more p c cs later m now s h = go (short c) refl
  where
    go : (b : Bool) → short c ≡ b → Always p m (alongside now) (c ∷ cs)
    go true e =
        rw (e, short_is c.place (record_of now.state) c.rest) (λ t. absurd t, λ _. refl, later m now s (rw e at h))
    go false e =
        let f = first_field c.rest in let q = rw e at h in
        rw (e, fielded_is s c.place c.rest, follow_is p m c.place now s f) (
          λ t. let a = subst T (accepts_is c.place now.state f) t in kept p m c.place now s f a (q.0 a),
          λ n. absurd (true≢false (sym n)),
          later (suc m) (Motion.follow p m now f) (after_sound s f) q.1,
        )

follows : (p : Picks) (calls : List Call) → Follows p calls
unfolding Follows Always
follows p [] = λ m now s h. tt
follows p (c ∷ cs) = one_more p c cs (follows p cs)

-- Demand 3.
pub enclosed : Enclosed
unfolding Follows
enclosed calls p a = follows p calls 0 (Motion.beginning p) begin_sound (Over.enclosed (fields_taken calls) p a)
