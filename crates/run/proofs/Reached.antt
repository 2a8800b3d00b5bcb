-- The states that `begin` and `field` lead to: each is the record of a state of the definitions, and no call with one of them is refused
-- whose slices are long enough. The statement is `NeverUnfit` (specs/NeverUnfit.antt).
use mathlib.Core.Path.{◌≡◌, refl, ◌∙◌, ap, ap₂}
use mathlib.Core.List.{List, [], ◌∷◌}
use mathlib.Core.Option.{none}
use mathlib.Core.Bool.{Bool, true, false, cond}
use Prim.Native.Nat.{ℕ, zero, suc}
use native.Mathlib.Omega.{arith}
use borrow.Author.Tests.{ne_eqb, eq-eqb, le-ltb}
use lib.Dec.{eqb}
use lib.ListN.{length, get_or}
use Rattle.model.specs.Limits.{max_total}
use Rattle.model.specs.Run as Model
use Rattle.model.specs.Run.{begin, current, after, answer, outcome, ◌if◌, first_of, first_field}
use Rattle.model.specs.Field.{Outcome, inside, verdict, refused, skipped}
use Rattle.model.specs.Library.{of_first, bad_next}
use Rattle.model.proofs.Sound.{Sound, begin_sound, after_sound}
use Rattle.zonotope.specs.Record.{pack, given}
use Rattle.zonotope.specs.Answer.{or_else, first_append}
use Rattle.zonotope.specs.declared.Cause.{Cause}
use Rattle.zonotope.specs.declared.Cause.TheVariants.{WorkTooShort}
use Rattle.states.specs.declared.State.{State}
use Rattle.states.specs.declared.Outcome.TheVariants.{Unfit}
use Rattle.states.specs.State.{viewed, record_of, beginning}
use Rattle.states.specs.Answer.{outcome_of, answer_of, unfit_answer}
use Rattle.states.specs.Taken.{taken}
use Rattle.states.proofs.Recorded.{passes, next_fits, viewed_record, taken_record}
use Rattle.advance.specs.RecordRuns.{record_runs}
use Rattle.run.specs.Unfit.{bad_totals, of_rest, unfit, totals_good}
use Rattle.run.specs.Field.{returned, fielded}
use Rattle.run.specs.Enclosed.{Call, short, called}
use Rattle.run.specs.NeverUnfit.{state_after, NeverUnfit}

-- a run begins with the record of the definitions' first state
pub begin_record : beginning ≡ record_of begin
begin_record = refl

-- no number refuses the record of a sound state
pub sound_fits : {u : Model.State} → Sound u → unfit false (record_of u) ≡ none
unfolding unfit first_of
sound_fits {u} s =
    first_append (cond (eqb u.count 0) [] (of_first (given (pack (current u)))))
    (of_rest (bad_next u.next (current (viewed (record_of u)))) u.folded)
    ∙ ap₂ or_else (set_passes u.count refl) (ap₂ (λ x y. first_of ((11 if x) ∷ (6 if y) ∷ [])) next totals)
  where
    next : bad_next u.next (current (viewed (record_of u))) ≡ false
    next = ap (λ (x : Model.State). bad_next u.next (current x)) (viewed_record s) ∙ next_fits s

    totals : bad_totals u.folded ≡ false
    totals = totals_good u.folded (λ i l. le-ltb max_total (get_or u.folded i 0) ((record_runs s).totals i))

    set_passes : (n : ℕ) → u.count ≡ n → first_of (cond (eqb u.count 0) [] (of_first (given (pack (current u))))) ≡ none
    set_passes zero e = rw (eq-eqb u.count 0 e)
    set_passes (suc n) e = rw (ne_eqb u.count 0 (λ z. omega arith)) (passes (s.valid (omega arith)))

-- the call takes the first field, and leaves the record of what the definitions leave
pub fielded_is : {u : Model.State} → Sound u → (place : ℕ) (rest : List ℕ)
    → fielded false place (record_of u) rest ≡ record {
      answer = answer_of (answer place u (first_field rest)) (length (first_field rest));
      state = record_of (after u (first_field rest));
    }
unfolding fielded
fielded_is {u} s place rest =
    ap (λ o. returned o (record_of u) (taken place (record_of u) (first_field rest))) (sound_fits s) ∙ taken_record s place (first_field rest)

-- a call whose slices are too short leaves the state as it came
pub short_is : (place : ℕ) (st : State) (rest : List ℕ)
    → fielded true place st rest ≡ record { answer = unfit_answer st.count WorkTooShort; state = st }
unfolding fielded unfit first_of
short_is place st rest = refl

-- ---- the calls from `begin()` on
-- the record of a sound state
record Reached (st : State) : Type 0 where
  state : Model.State
  sound : Sound state
  record_is : st ≡ record_of state

-- a call with such a one
module _ {st : State} (h : Reached st) (c : Call) where
  abbrev f : List ℕ
  f = first_field c.rest

  with_room : short c ≡ false
      → called st c ≡ record { answer = answer_of (answer c.place h.state f) (length f); state = record_of (after h.state f) }
  with_room e = rw (e, h.record_is) (fielded_is h.sound c.place c.rest)

  without-room : short c ≡ true → called st c ≡ record { answer = unfit_answer st.count WorkTooShort; state = st }
  without-room e = rw e (short_is c.place st c.rest)

  call_reaches : Reached (called st c).state
  call_reaches = go (short c) refl
    where
      go : (b : Bool) → short c ≡ b → Reached (called st c).state
      go true e = rw (without-room e) h
      go false e = rw (with_room e) (record { state = after h.state f; sound = after_sound h.sound f; record_is = refl })

calls_reach : {st : State} → Reached st → (calls : List Call) → Reached (state_after st calls)
unfolding state_after
calls_reach h [] = h
calls_reach {st = st} h (c ∷ cs) = calls_reach {st = (called st c).state} (call_reaches h c) cs

-- what the definitions answer refuses no call
not-unfit : (o : Outcome) (c : Cause) → ¬ (outcome_of o ≡ Unfit c)
not-unfit (inside b) c e = let z : ◌≡◌ {A = ℕ} 0 1 = cc in omega arith
not-unfit (verdict true) c e = let z : ◌≡◌ {A = ℕ} 0 1 = cc in omega arith
not-unfit (verdict false) c e = let z : ◌≡◌ {A = ℕ} 0 1 = cc in omega arith
not-unfit (refused m place) c e = let z : ◌≡◌ {A = ℕ} 0 1 = cc in omega arith
not-unfit skipped c e = let z : ◌≡◌ {A = ℕ} 0 1 = cc in omega arith

-- After any calls the next one is refused only where its slices are too short.
pub never_unfit : NeverUnfit
unfolding answer_of unfit_answer
never_unfit calls c =
    let h = calls_reach (record { state = begin; sound = begin_sound; record_is = begin_record }) calls in (
      λ e. rw (with_room h c e) (not-unfit (outcome c.place h.state (first_field c.rest))),
      λ e. rw (without-room h c e) refl,
    )
