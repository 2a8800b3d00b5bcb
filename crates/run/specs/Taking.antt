-- What a call returns and leaves in the work slices, from what the field gave.
use Rattle.std.specs.Prelude.{◌≡◌, List, ltb, Err}
use Rattle.std.proofs.Common.{sym, ◌∙◌, ltb-false}
use Rattle.std.proofs.Math.Path.{ap}
use Rattle.std.proofs.Math.Option.{Option, none, some}
use Rattle.std.proofs.Math.Bool.{Bool, false}
use Prim.Native.Nat.{ℕ, ◌≤◌}
use Rattle.whole.specs.Tests.{or_left, or_right}
use Rattle.model.specs.Run.{first_of, first_field}
use Rattle.zonotope.specs.declared.Cause.{Cause}
use Rattle.zonotope.specs.Valid.{passed}
use Rattle.zonotope.specs.Answer.{Examined, Accepted, examined, accepted, refused-with}
use Rattle.stepping.specs.Work.{work_numbers, work_exponents}
use Rattle.step.specs.Answer.{without_room}
use Rattle.states.specs.declared.State.{State}
use Rattle.states.specs.declared.Fielded.{Fielded}
use Rattle.states.specs.State.{viewed}
use Rattle.states.specs.Answer.{unfit_answer}
use Rattle.states.specs.Taken.{taken}
use Rattle.advance.specs.declared.Advanced.{Advanced}
use Rattle.advance.specs.Advanced.{step_worked, advanced}
use Rattle.run.specs.Unfit.{unfit}
use Rattle.run.specs.Field.{returned, fielded, field_worked}

-- ---- a field that was taken
module _ (place : ℕ) (st : State) (f : List ℕ) {a : Advanced} (p : a ≡ advanced place st f) where
  pub taken-from : ◌≡◌ {A = Fielded} (record { answer = a.answer; state = a.state }) (taken place st f)
  unfolding advanced
  taken-from = ap (λ (x : Advanced). record { answer = x.answer; state = x.state }) p

  pub worked-from : a.worked ≡ step_worked (viewed st) f
  unfolding advanced
  worked-from = ap (λ (x : Advanced). x.worked) p

-- ---- a call, by what refuses it
module _ {o : Examined} (short : Bool) (st : State) (from : o ≡ examined (unfit short st)) (place : ℕ) (rest : List ℕ) where
  pub call_refused : {c : Cause} → o ≡ Err c
      → (record { answer = unfit_answer st.count c; state = st } ≡ fielded short place st rest) × (field_worked short st rest ≡ false)
  unfolding fielded field_worked
  call_refused {c} e =
      let q = refused-with (unfit short st) (sym from ∙ e) in (
        ap (λ (c : Cause). record { answer = unfit_answer st.count c; state = st }) q.2
            ∙ ap (λ u. returned u st (taken place st (first_field rest))) (sym q.1),
        ap worked_by q.1,
      )
    where
      worked_by : Option ℕ → Bool
      worked_by u = elim u [ none ↦ step_worked (viewed st) (first_field rest) | some n ↦ false ]

  pub call_taken : o ≡ Accepted
      → (taken place st (first_field rest) ≡ fielded short place st rest) × (step_worked (viewed st) (first_field rest) ≡ field_worked short st rest)
  unfolding fielded field_worked
  call_taken e =
      let q = accepted (unfit short st) (sym from ∙ e) in
      (ap (λ u. returned u st (taken place st (first_field rest))) (sym q), ap worked_by (sym q))
    where
      worked_by : Option ℕ → Bool
      worked_by u = elim u [ none ↦ step_worked (viewed st) (first_field rest) | some n ↦ false ]

-- ---- room in the work slices
pub has_room : (numbers exponents : ℕ) → without_room numbers exponents ≡ false → (work_numbers ≤ numbers) × (work_exponents ≤ exponents)
has_room numbers exponents e = (
  ltb-false numbers work_numbers (or_left (ltb numbers work_numbers) (ltb exponents work_exponents) e),
  ltb-false exponents work_exponents (or_right (ltb numbers work_numbers) (ltb exponents work_exponents) e),
)

-- a call that is taken has it
pub room_left : {o : Examined} (numbers exponents : ℕ) (st : State) → o ≡ examined (unfit (without_room numbers exponents) st) → o ≡ Accepted
    → (work_numbers ≤ numbers) × (work_exponents ≤ exponents)
unfolding unfit first_of
room_left numbers exponents st from e =
    has_room numbers exponents
    (passed (without_room numbers exponents) 13 (accepted (unfit (without_room numbers exponents) st) (sym from ∙ e))).0
