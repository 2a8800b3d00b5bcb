-- Demand 3, entire: for every list of fields and every motion, no motion leaves the computed set at its own factor values or the box that a
-- field answers, and none is in a region that a check calls safe. The statement is `Enclosed` (specs/Motion.antt).
use mathlib.Core.Path.{◌≡◌, refl, sym, ◌∙◌, ap, subst}
use mathlib.Core.List.{List, [], ◌∷◌}
use mathlib.Core.Option
use mathlib.Core.Option.{Option, none, some}
use mathlib.Core.Bool.{Bool, true, false, cond}
use Prim.Native.Nat.{ℕ, zero, suc, ◌+◌, ◌<◌}
use native.Mathlib.Nat.{add-zero, add-suc, suc-add, zero-add}
use native.Mathlib.Omega.{arith}
use lib.Dec.{T}
use lib.ListN.{get_or}
use Rattle.model.specs.Set.{Zonotope}
use Rattle.model.specs.Run.{State, no_set, current, tag, body, kind_of, meant, refusal, accepted, after, outcome, accepted_by, refused_at}
use Rattle.model.specs.Points.{Vector, Point, InRange}
use Rattle.model.specs.Motion.{Picks, Moment, beginning, move, values_after, mark_after, fresh_values, follow, InBox, Kept}
use Rattle.model.specs.Motion.{Always, Enclosed}
use Rattle.model.proofs.Held.{Held}
use Rattle.model.proofs.Accepted.{accepted-passed}
use Rattle.model.proofs.Answers.{answered-box}
use Rattle.model.proofs.Sound.{Sound, begin_sound, after_sound, current-held}
use Rattle.model.proofs.BoxPoint.{box_point}
use Rattle.model.proofs.Laws.{Inside, Agree, old_value, values_range}
use Rattle.model.proofs.Kind.{laws}

-- ---- an accepted field leaves its result, another leaves the set
-- of a run that isn't over and a field without refusal, or else
taken : {A : Type 0} (b : Bool) (o : Option ℕ) (x y : A) (z : ℕ → A) → T (cond b false (elim o [ none ↦ true | some n ↦ false ]))
    → cond b x (elim o [ none ↦ y | some n ↦ z n ]) ≡ y
taken true o x y z t = absurd t
taken false none x y z t = refl
taken false (some n) x y z t = absurd t

left : {A : Type 0} (P : A → Type 0) (b : Bool) (o : Option ℕ) (x y : A) (z : ℕ → A) → P x → ((n : ℕ) → P (z n))
    → cond b false (elim o [ none ↦ true | some n ↦ false ]) ≡ false → P (cond b x (elim o [ none ↦ y | some n ↦ z n ]))
left P true o x y z h k e = h
left P false none x y z h k e = let w : ◌≡◌ {A = ℕ} 0 1 = cc in absurd (omega arith)
left P false (some n) x y z h k e = k n

module _ (st : State) (f : List ℕ) where
  accepted_state : T (accepted st f) → after st f ≡ accepted_by st (meant st f)
  unfolding accepted after
  accepted_state t = taken st.over (refusal st f) st _ (λ n. refused_at st) t

  accepted-outcome : T (accepted st f) → (place : ℕ) → outcome place st f ≡ (meant st f).outcome
  unfolding accepted outcome
  accepted-outcome t place = taken st.over (refusal st f) _ _ _ t

  -- a field that isn't accepted keeps the set and the count
  record Same (u : State) : Type 0 where
    set : u.set ≡ st.set
    next : u.next ≡ st.next
    count : u.count ≡ st.count

  other_state : accepted st f ≡ false → Same (after st f)
  unfolding accepted after
  other_state e = left Same st.over (refusal st f) st _ _ (record { set = refl; next = refl; count = refl })
      (λ n. record { set = refl; next = refl; count = refl }) e

-- ---- the invariant: a motion beside a sound state
record Good (p : Picks) (now : Moment) : Type 0 where
  sound : Sound now.state
  -- the run's next identifier is the mark that the accepted bodies count
  counted : now.mark ≡ now.state.next
  ranged : InRange now.values
  agree : Agree p now.values
  in_set : 0 < now.state.count → Point (current now.state) now.values now.position

-- where the motion goes at an accepted field
moved : Picks → ℕ → Moment → List ℕ → Moment
moved p m now f = record {
  state = after now.state f;
  mark = mark_after (kind_of (tag f)) (body f) now.mark;
  values = values_after (kind_of (tag f)) (body f) p m now.mark now.values;
  position = move (kind_of (tag f)) (body f) p m now.position;
}

stayed : Moment → List ℕ → Moment
stayed now f = record { state = after now.state f; mark = now.mark; values = now.values; position = now.position }

follow_is : (p : Picks) (m : ℕ) (now : Moment) (f : List ℕ) → follow p m now f ≡
    cond (accepted now.state f) (moved p m now f) (stayed now f)
unfolding follow moved stayed
follow_is p m now f = go (accepted now.state f)
  where
    go : (b : Bool) → record {
      state = after now.state f;
      mark = cond b (mark_after (kind_of (tag f)) (body f) now.mark) now.mark;
      values = cond b (values_after (kind_of (tag f)) (body f) p m now.mark now.values) now.values;
      position = cond b (move (kind_of (tag f)) (body f) p m now.position) now.position;
    } ≡ cond b (moved p m now f) (stayed now f)
    go true = refl
    go false = refl

-- where a set is held, a field was accepted
begun : {st : State} → Sound st → Held st.next (current st) → 0 < st.count
begun {st} s h = go st.count refl
  where
    go : (n : ℕ) → st.count ≡ n → 0 < n
    go zero e =
        let d : (current st).dimension ≡ 0 = ap (λ o. (Option.get_or o no_set).dimension) (s.not_yet e) in
        absurd (omega (arith, h.counts.dimension_some))
    go (suc n) e = omega arith

module _ (p : Picks) (m : ℕ) (now : Moment) (f : List ℕ) (g : Good p now) (i : Inside p m (kind_of (tag f)) (body f)) where
  abbrev values : Vector
  values = values_after (kind_of (tag f)) (body f) p m now.mark now.values

  abbrev position : Vector
  position = move (kind_of (tag f)) (body f) p m now.position

  values_in : InRange values
  unfolding values_after
  values_in = values_range (fresh_values (kind_of (tag f)) (body f) p m) now.mark
      ((laws (kind_of (tag f))).fresh_range (body f) p m i.own i.blend) g.ranged

  -- an identifier below the mark keeps its value
  old_values : (j : ℕ) → j < now.mark → values j ≡ now.values j
  unfolding values_after
  old_values j h = old_value (fresh_values (kind_of (tag f)) (body f) p m) now.mark now.values j h

  -- the motion after an accepted field is in its result
  result_point : T (accepted now.state f) → Point (meant now.state f).result values position
  result_point t =
      let a = accepted-passed now.state f t in
      subst (λ n. Point (meant now.state f).result (values_after (kind_of (tag f)) (body f) p m n now.values) position) (sym g.counted)
      ((laws (kind_of (tag f))).keeps (body f) p m now.state.next (current now.state) g.sound.from_first g.ranged g.agree i
      (λ e. let h = current-held g.sound f a e in (h, g.in_set (begun g.sound h))) a.passed)

  -- a state's current set after it
  result_is : T (accepted now.state f) → (meant now.state f).result ≡ current (after now.state f)
  result_is t = ap current (sym (accepted_state now.state f t))

  moved_good : T (accepted now.state f) → Good p (moved p m now f)
  unfolding moved
  moved_good t = record {
    sound = after_sound g.sound f;
    counted = ap (mark_after (kind_of (tag f)) (body f)) g.counted
        ∙ sym ((laws (kind_of (tag f))).next-counted (body f) now.state.next (current now.state))
        ∙ ap (λ (st : State). st.next) (sym (accepted_state now.state f t));
    ranged = values_in;
    agree = λ k h. g.agree k h
        ∙ sym (old_values k (omega (arith, g.sound.from_first, g.counted)));
    in_set = λ h. subst (λ s. Point s values position) (result_is t) (result_point t);
  }

  moved-kept : T (accepted now.state f) → Kept now.state f (moved p m now f)
  unfolding moved
  moved-kept t =
      let q = (accepted-passed now.state f t).passed in
      let k = kind_of (tag f) in let b = body f in let next = now.state.next in let s = current now.state in
      record {
        in_set = subst (λ s. Point s values position) (result_is t) (result_point t);
        in_box = λ place x e. subst (λ n. InBox n position x) (ap (λ (u : Zonotope). u.dimension) (result_is t))
            (subst (InBox (meant now.state f).result.dimension position)
            (answered-box k b next s x (sym (accepted-outcome now.state f t place) ∙ e)) (box_point values_in (result_point t)));
        not_unsafe = λ place e. (laws k).answered-safe b next s q values_in (result_point t) (sym (accepted-outcome now.state f t place) ∙ e);
      }

  stayed_good : accepted now.state f ≡ false → Good p (stayed now f)
  unfolding stayed
  stayed_good e =
      let same = other_state now.state f e in
      let n = same.count in
      record {
        sound = after_sound g.sound f;
        counted = g.counted ∙ sym same.next;
        ranged = g.ranged;
        agree = g.agree;
        in_set = λ h. subst (λ o. Point (Option.get_or o no_set) now.values now.position) (sym same.set) (g.in_set (omega arith));
      }

  -- one field
  next_good : Good p (follow p m now f) × (T (accepted now.state f) → Kept now.state f (follow p m now f))
  next_good = rw (follow_is p m now f) (go (accepted now.state f) refl)
    where
      go : (b : Bool) → accepted now.state f ≡ b
          → Good p (cond b (moved p m now f) (stayed now f)) × (T b → Kept now.state f (cond b (moved p m now f) (stayed now f)))
      go true e = let t = subst T (sym e) tt in (moved_good t, λ _. moved-kept t)
      go false e = (stayed_good e, λ t. absurd t)

-- ---- the whole list, from field m on
always : (p : Picks) (m : ℕ) (now : Moment) (fs : List (List ℕ)) → Good p now
    → ((j : ℕ) → let f = get_or fs j [] in Inside p (m + j) (kind_of (tag f)) (body f)) → Always p m now fs
unfolding Always
always p m now [] g h = tt
always p m now (f ∷ fs) g h =
    let n = next_good p m now f g (rw (add-zero m) at (h 0)) in
    (n.1, always p (suc m) (follow p m now f) fs n.0 (λ j. rw (suc-add m j) (rw (add-suc m j) at (h (suc j)))))

begin_good : (p : Picks) → InRange p.values → Good p (beginning p)
begin_good p w = record { sound = begin_sound; counted = refl; ranged = w; agree = λ k h. refl; in_set = λ h. absurd (omega arith) }

-- Demand 3.
pub enclosed : Enclosed
enclosed fields p a =
    always p 0 (beginning p) fields (begin_good p a.values)
    (λ j. rw (zero-add j) (record {
      own = a.own j;
      numbers = a.numbers j;
      blend = a.blend j;
      offsets = a.offsets j;
      coefficients = a.coefficients j;
    }))
