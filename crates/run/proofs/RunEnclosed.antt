-- Demand 3 of what `run` returns for a whole input.
use mathlib.Core.Path.{◌≡◌, refl, sym, ◌∙◌, ap, subst}
use mathlib.Core.List.{List, [], ◌∷◌}
use mathlib.Core.Option.{Option, none, some}
use mathlib.Core.Bool.{Bool, true, false, cond, true≢false}
use Prim.Native.Nat.{ℕ, suc, ◌+◌}
use native.Mathlib.Omega.{arith}
use lib.Dec.{T}
use lib.ListN.{length}
use Rattle.model.specs.Set.{Zonotope}
use Rattle.model.specs.Points.{Point}
use Rattle.model.specs.Run as Model
use Rattle.model.specs.Run.{tag, body, kind_of, current, after, accepted, answer, outcome, refusal, meant, accepted_by, refused_at, run}
use Rattle.model.specs.Run.{fields}
use Rattle.model.specs.Motion as Motion
use Rattle.model.specs.Motion.{Picks}
use Rattle.model.proofs.Sound.{Sound, begin_sound, after_sound}
use Rattle.model.proofs.Enclosed as Over
use Rattle.states.specs.declared.Answer.{Answer}
use Rattle.states.specs.declared.Outcome.{Outcome}
use Rattle.zonotope.specs.Record.{view, pack}
use Rattle.states.specs.State.{record_of}
use Rattle.states.specs.Answer.{outcome_of, answer_of, accepts}
use Rattle.run.specs.Whole.{last_answer, no_answer, ran_of}
use Rattle.run.proofs.CourseLaws.{chosen, over_answer}
use Rattle.run.specs.Enclosed.{follow_all, last_field, KeptAtEnd, RunEnclosed}
use Rattle.run.proofs.Accepts.{accepts_is}
use Rattle.run.proofs.Enclosed.{kept}

-- a field that isn't accepted leaves set and count
stays : (u : Model.State) (f : List ℕ) → accepted u f ≡ false → (current u ≡ current (after u f)) × ((after u f).count ≡ u.count)
unfolding accepted after
stays u f = go u.over (refusal u f)
  where
    go : (b : Bool) (o : Option ℕ) → cond b false (elim o [ none ↦ true | some n ↦ false ]) ≡ false → (let x = cond b u (elim o [
      | none ↦ accepted_by u (meant u f)
      | some n ↦ refused_at u
    ]) in (current u ≡ current x) × (x.count ≡ u.count))
    go true o e = (refl, refl)
    go false none e = absurd (true≢false e)
    go false (some n) e = (refl, refl)

-- one more field, which is looked at
module _ (p : Picks) (m place : ℕ) (now : Motion.Moment) (s : Sound now.state) (f : List ℕ) where
  abbrev u : Model.State
  u = now.state

  -- its answer accepts it where the definitions do
  silent : accepted u f ≡ false → {o : Outcome} → accepts o ≡ true → outcome_of (outcome place u f) ≡ o → ⊥
  silent e a q = true≢false (sym a ∙ sym (ap accepts q) ∙ accepts_is place u f ∙ e)

  next-kept : {g : List ℕ} {a : Answer} → (T (accepted u f) → Motion.Kept u f (Motion.follow p m now f))
      → KeptAtEnd g (record_of u) a now
      → KeptAtEnd f (record_of (after u f)) (answer_of (answer place u f) (length f)) (Motion.follow p m now f)
  unfolding answer_of Motion.follow
  next-kept {g} {a} k h = go (accepted u f) refl
    where
      go : (b : Bool) → accepted u f ≡ b
          → KeptAtEnd f (record_of (after u f)) (answer_of (answer place u f) (length f)) (Motion.follow p m now f)
      go true e =
          let t = subst T (sym e) tt in let q = kept p m place now s f t (k t) in
          record { in_set = λ l. q.in_set; in_box = q.in_box; not_unsafe = q.not_unsafe }
      go false e =
          let same = stays u f e in
          record {
            in_set = λ l. subst (λ (v : Zonotope). Point (view (pack v)) (Motion.follow p m now f).values (Motion.follow p m now f).position) same.0
                (rw e (h.in_set (omega (arith, same.1))));
            in_box = λ q. absurd (silent e refl q);
            not_unsafe = λ q. absurd (silent e refl q);
          }

-- a run that is over looks at nothing more
over_field : (l : List (List ℕ)) (v : Model.State) {g : List ℕ} → v.over ≡ true → last_field v g l ≡ g
unfolding last_field
over_field [] v e = refl
over_field (f ∷ l) v {g} e = chosen v.over g _ e

-- and stays as it is
over_moment : (p : Picks) (m : ℕ) (now : Motion.Moment) (f : List ℕ) → now.state.over ≡ true → Motion.follow p m now f ≡ now
unfolding Motion.follow after accepted
over_moment p m now f e = go now.state.over e
  where
    go : (b : Bool) → b ≡ true → ◌≡◌ {A = Motion.Moment} (record {
      state = cond b now.state (elim (refusal now.state f) [
        | none ↦ accepted_by now.state (meant now.state f)
        | some n ↦ refused_at now.state
      ]);
      mark = cond (cond b false (elim (refusal now.state f) [ none ↦ true | some n ↦ false ])) (Motion.mark_after (kind_of (tag f)) (body f) now.mark) now.mark;
      values = cond (cond b false (elim (refusal now.state f) [ none ↦ true | some n ↦ false ]))
          (Motion.values_after (kind_of (tag f)) (body f) p m now.mark now.values) now.values;
      position = cond (cond b false (elim (refusal now.state f) [ none ↦ true | some n ↦ false ]))
          (Motion.move (kind_of (tag f)) (body f) p m now.position) now.position;
    }) now
    go true q = refl
    go false q = absurd (true≢false (sym q))

-- all of them
AllKept : Picks → List (List ℕ) → Type 0
AllKept p fs = (m place : ℕ) (now : Motion.Moment) (g : List ℕ) (a : Answer) → Sound now.state
    → Motion.Always p m now fs → KeptAtEnd g (record_of now.state) a now
    → KeptAtEnd (last_field now.state g fs) (record_of (run fs now.state)) (last_answer place now.state fs a) (follow_all p m now fs)

one_more : (p : Picks) (f : List ℕ) (fs : List (List ℕ)) → AllKept p fs → AllKept p (f ∷ fs)
unfolding AllKept Motion.Always run last_field last_answer follow_all Motion.follow
one_more p f fs ih m place now g a s w h = go now.state.over refl
  where
    go : (over : Bool) → now.state.over ≡ over
        → KeptAtEnd (cond over g (last_field (after now.state f) f fs)) (record_of (run fs (after now.state f)))
        (cond over a (last_answer (place + length f) (after now.state f) fs (answer_of (answer place now.state f) (length f))))
        (follow_all p (suc m) (Motion.follow p m now f) fs)
    go true e =
        let same = over_moment p m now f e in
        let v = after now.state f in
        let over : v.over ≡ true = ap (λ (x : Motion.Moment). x.state.over) same ∙ e in
        let k = ih (suc m) place (Motion.follow p m now f) g a (after_sound s f) w.1
        (subst (λ (x : Motion.Moment). KeptAtEnd g (record_of x.state) a x) (sym same) h) in
        subst (λ b. KeptAtEnd g (record_of (run fs v)) b (follow_all p (suc m) (Motion.follow p m now f) fs)) (over_answer place fs v a over)
        (subst (λ x. KeptAtEnd x (record_of (run fs v)) (last_answer place v fs a) (follow_all p (suc m) (Motion.follow p m now f) fs)) (over_field fs v over) k)
    go false e =
        ih (suc m) (place + length f) (Motion.follow p m now f) f (answer_of (answer place now.state f) (length f)) (after_sound s f) w.1
        (next-kept p m place now s f w.0 h)

all-kept : (p : Picks) (fs : List (List ℕ)) → AllKept p fs
unfolding AllKept run last_field last_answer follow_all
all-kept p [] = λ m place now g a s w h. h
all-kept p (f ∷ fs) = one_more p f fs (all-kept p fs)

-- Demand 3 of a whole input.
pub run_enclosed : RunEnclosed
unfolding ran_of AllKept answer_of
run_enclosed input p a = all-kept p (fields input) 0 0 (Motion.beginning p) [] no_answer begin_sound (Over.enclosed (fields input) p a) (record {
  in_set = λ l. absurd (omega arith);
  in_box = λ e. let z : ◌≡◌ {A = ℕ} 0 1 = cc in absurd (omega arith);
  not_unsafe = λ e. let z : ◌≡◌ {A = ℕ} 0 1 = cc in absurd (omega arith);
})
