-- The state that a field leaves, as a record: it means what the definitions leave.
use mathlib.Core.Path.{◌≡◌, refl, sym, ap, ap₂, ◌∙◌, subst}
use mathlib.Core.List.{List}
use mathlib.Core.Option.{Option, none, some}
use mathlib.Core.Bool.{Bool, true, false, cond, true≢false}
use Prim.Native.Nat.{ℕ, ◌<◌}
use native.Mathlib.Omega.{arith}
use lib.Dec.{eqb}
use Rattle.model.specs.Run as Model
use Rattle.model.specs.Run.{after, refusal, meant, current, accepted_by, refused_at}
use Rattle.model.proofs.Sound.{Sound, after_sound}
use Rattle.zonotope.specs.Record.{view, pack}
use Rattle.states.specs.declared.State.{State}
use Rattle.states.specs.State.{viewed, record_of, left}
use Rattle.states.proofs.Recorded.{means, viewed_record}

-- a run that is over, before or by this field, keeps its set and its count
over_keeps : (u : Model.State) (f : List ℕ) → (after u f).over ≡ true → ((after u f).set ≡ u.set) × ((after u f).count ≡ u.count)
unfolding after
over_keeps u f = go u.over (refusal u f)
  where
    go : (b : Bool) (o : Option ℕ) → (let x = cond b u (elim o [ none ↦ accepted_by u (meant u f) | some n ↦ refused_at u ]) in
        x.over ≡ true → (x.set ≡ u.set) × (x.count ≡ u.count))
    go true o e = (refl, refl)
    go false none e = absurd (true≢false (sym e))
    go false (some n) e = (refl, refl)

-- what is left where the run isn't over, and where it is
left-accepted : (st : State) (v : Model.State) → v.over ≡ false → left st v ≡ record_of v
unfolding left
left-accepted st v e = ap (λ x. record {
  set = cond x st.set (pack (current v));
  next = v.next;
  count = v.count;
  over = v.over;
  folded = v.folded;
}) e

left-refused : (st : State) (v : Model.State) → v.over ≡ true → v.set ≡ (viewed st).set → v.count ≡ (viewed st).count
    → viewed (left st v) ≡ v
unfolding left viewed
left-refused st v e h k =
    ap (λ x. record { set = x; next = v.next; count = v.count; over = v.over; folded = v.folded })
    (ap₂ (λ b n. cond (eqb n 0) none (some (view (cond b st.set (pack (current v)))))) e k ∙ sym h)

left-kept : (st : State) (v : Model.State) → v.over ≡ true → v.count ≡ st.count → (0 < st.count → pack (view st.set) ≡ st.set)
    → 0 < (left st v).count → pack (view (left st v).set) ≡ (left st v).set
unfolding left
left-kept st v e k h l =
    ap (λ b. pack (view (cond b st.set (pack (current v))))) e ∙ h (omega arith) ∙ sym (ap (λ b. cond b st.set (pack (current v))) e)

module _ (st : State) (f : List ℕ) (s : Sound (viewed st)) where
  -- it means what the definitions leave
  pub viewed-left : viewed (left st (after (viewed st) f)) ≡ after (viewed st) f
  viewed-left = go (after (viewed st) f).over refl
    where
      go : (b : Bool) → (after (viewed st) f).over ≡ b → viewed (left st (after (viewed st) f)) ≡ after (viewed st) f
      go false e = ap viewed (left-accepted st (after (viewed st) f) e) ∙ viewed_record (after_sound s f)
      go true e = left-refused st (after (viewed st) f) e (over_keeps (viewed st) f e).0 (over_keeps (viewed st) f e).1

  -- its set is the record of what it means
  pub left_packed : (0 < st.count → pack (view st.set) ≡ st.set)
      → 0 < (left st (after (viewed st) f)).count → pack (view (left st (after (viewed st) f)).set) ≡ (left st (after (viewed st) f)).set
  unfolding viewed
  left_packed h = go (after (viewed st) f).over refl
    where
      go : (b : Bool) → (after (viewed st) f).over ≡ b
          → 0 < (left st (after (viewed st) f)).count → pack (view (left st (after (viewed st) f)).set) ≡ (left st (after (viewed st) f)).set
      go false e =
          subst (λ (v : State). 0 < v.count → pack (view v.set) ≡ v.set) (sym (left-accepted st (after (viewed st) f) e))
          (λ k. ap pack (means ((after_sound s f).valid k)))
      go true e = left-kept st (after (viewed st) f) e (over_keeps (viewed st) f e).1 h
