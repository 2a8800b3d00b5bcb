-- One turn of a run over a whole input, from what the field gave; and the loop's invariant.
use Rattle.std.specs.Prelude.{◌≡◌, refl, List, Bool, true, false, ◌||◌, ℕ, ◌+◌, ◌-◌, ◌≤◌, ◌<◌, eqb, length, take, drop, ℤ, pos}
use Rattle.std.proofs.Common.{sym, ◌∙◌, ap, subst, arith, length-drop, take_all}
use Rattle.model.specs.Run as Model
use Rattle.model.specs.Run.{begin, after, answer, fields, first_field}
use Rattle.model.proofs.Cutting.{goes_on}
use Rattle.whole.specs.Tests.{or_left}
use Rattle.states.specs.declared.State.{State}
use Rattle.states.specs.declared.Answer.{Answer}
use Rattle.states.specs.State.{record_of, beginning}
use Rattle.states.specs.Answer.{answer_of}
use Rattle.stepping.specs.Work.{work_numbers, work_exponents}
use Rattle.advance.specs.declared.Advanced.{Advanced}
use Rattle.advance.specs.Advanced.{step_worked, advanced, Used}
use Rattle.advance.specs.Running.{Running}
use Rattle.advance.specs.RecordRuns.{record_runs, advanced_record}
use Rattle.run.specs.declared.Ran.{Ran}
use Rattle.run.specs.Whole.{of_input}
use Rattle.run.specs.Course.{Coursing, Ended}
use Rattle.run.proofs.CourseLaws.{begins, next-within, turns, ends, unused, used-again}

-- ---- the loop
pub record Following (input : List ℕ) (w₀ w : List ℤ) (e₀ e : List ℕ) (at : ℕ) (st : State) (worked : Bool) : Type 0 where
  pub now : Model.State
  pub coursing : Coursing input at st worked now
  pub numbers : Used worked (pos 0) work_numbers w₀ w
  pub exponents : Used worked 0 work_exponents e₀ e
  pub numbers_long : length w ≡ length w₀
  pub exponents_long : length e ≡ length e₀

pub follows : (input : List ℕ) (w : List ℤ) (e : List ℕ) {st : State} → st ≡ beginning → Following input w w e e 0 st false
follows input w e p = rw p (record {
  now = begin;
  coursing = begins input;
  numbers = unused (pos 0) work_numbers w;
  exponents = unused 0 work_exponents e;
  numbers_long = refl;
  exponents_long = refl;
})

module _ {input : List ℕ} {w₀ w : List ℤ} {e₀ e : List ℕ} {at : ℕ} {st : State} {worked : Bool}
    (h : Following input w₀ w e₀ e at st worked) where
  pub runs : Running st
  runs = subst Running (sym h.coursing.record_is) (record_runs h.coursing.sound)

  abbrev f : List ℕ
  f = first_field (drop at input)

  -- what the field gave
  module _ {a : Advanced} (p : a ≡ advanced at st (first_field (take (length input - at) (drop at input)))) where
    given : a ≡ record {
      answer = answer_of (answer at h.now f) (length f);
      state = record_of (after h.now f);
      worked = step_worked h.now f;
    }
    given =
        p ∙ ap (λ (l : List ℕ). advanced at st (first_field l)) (take_all (length input - at) (drop at input) (omega (arith, length-drop at input)))
        ∙ ap (λ (s : State). advanced at s f) h.coursing.record_is ∙ advanced_record h.coursing.sound at f

    pub few_bytes : at + a.answer.bytes ≤ length input
    unfolding answer_of
    few_bytes = rw given (next-within h.coursing)

    pub turn-ends : (a.state.over || eqb (at + a.answer.bytes) (length input)) ≡ true → Ended input a.answer a.state (worked || a.worked)
    unfolding answer_of
    turn-ends e = rw given (ends h.coursing (rw given at e))

    module _ (on : (a.state.over || eqb (at + a.answer.bytes) (length input)) ≡ false) where
      pub turn_goes : {w' : List ℤ} {e' : List ℕ} → Used a.worked (pos 0) work_numbers w w' → Used a.worked 0 work_exponents e e'
          → length w' ≡ length w → length e' ≡ length e
          → Following input w₀ w' e₀ e' (at + a.answer.bytes) a.state (worked || a.worked)
      unfolding answer_of
      turn_goes u v l m = record {
        now = after h.now f;
        coursing = rw given (turns h.coursing (rw given at on));
        numbers = used-again worked a.worked h.numbers u;
        exponents = used-again worked a.worked h.exponents v;
        numbers_long = l ∙ h.numbers_long;
        exponents_long = m ∙ h.exponents_long;
      }

      -- at most 4,097 fields are accepted
      pub turns_fewer : 4098 - a.state.count < 4098 - st.count
      unfolding answer_of
      turns_fewer =
          let next = goes_on h.now f (or_left (after h.now f).over (eqb (at + length f) (length input)) (rw given at on)) in
          let was = ap (λ (s : State). s.count) h.coursing.record_is in
          let then = ap (λ (x : Advanced). x.state.count) given in
          omega (arith, next, was, then, h.coursing.sound.count_in)

-- ---- the end
pub ran_is : {input : List ℕ} {last : Answer} {st : State} {used : Bool} → Ended input last st used
    → ◌≡◌ {A = Ran} (record { accepted = st.count; last = last; state = st }) (of_input input)
ran_is k = rw (k.state, k.last_is) refl
