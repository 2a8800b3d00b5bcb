-- The record of a sound state is one that a run can have.
use Rattle.std.specs.Prelude.{◌≡◌, List, ℕ, length}
use Rattle.std.proofs.Common.{◌∙◌, ap, ap₂, arith}
use Rattle.model.specs.Run as Model
use Rattle.model.specs.Run.{current, after, answer}
use Rattle.model.specs.Library.{examine, bad_next}
use Rattle.model.proofs.Sound.{Sound}
use Rattle.zonotope.specs.Record.{pack, given}
use Rattle.zonotope.specs.Valid.{valid}
use Rattle.bodies.specs.Given.{pack_sized}
use Rattle.states.specs.declared.Fielded.{Fielded}
use Rattle.states.specs.State.{record_of}
use Rattle.states.specs.Answer.{answer_of}
use Rattle.states.proofs.Recorded.{passes, next_fits, viewed_record, taken_record}
use Rattle.advance.specs.Running.{Running}
use Rattle.advance.specs.Advanced.{step_worked, advanced}

pub record_runs : {u : Model.State} → Sound u → Running (record_of u)
unfolding examine
record_runs {u} s = record {
  set = λ h. record { sized = pack_sized (current u); passed = valid (given (pack (current u))) (passes (s.valid h)) };
  next = ap (λ (x : Model.State). bad_next u.next (current x)) (viewed_record s) ∙ next_fits s;
  six_totals = s.six_totals;
  totals = λ i. omega (arith, s.spans_most i, s.count_in);
}

-- a field given to it leaves the record of what the definitions leave
pub advanced_record : {u : Model.State} → Sound u → (place : ℕ) (f : List ℕ) → advanced place (record_of u) f ≡ record {
  answer = answer_of (answer place u f) (length f);
  state = record_of (after u f);
  worked = step_worked u f;
}
unfolding advanced
advanced_record {u} s place f =
    ap₂ (λ (r : Fielded) (x : Model.State). record { answer = r.answer; state = r.state; worked = step_worked x f })
    (taken_record s place f) (viewed_record s)
