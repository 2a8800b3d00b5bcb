-- What a field answers and leaves, and what becomes of the work slices.
use Rattle.std.specs.Prelude.{List, Bool, false, cond, ◌&&◌, ℕ}
use Rattle.std.proofs.Math.Option.{Option, none, some}
use Rattle.model.specs.Field.{Kind, refused, meaning, describe}
use Rattle.model.specs.Run as Model
use Rattle.model.specs.Run.{tag, kind_of, current, refusal, accepted_by, refused_at}
use Rattle.zonotope.specs.Record.{view}
use Rattle.stepping.specs.Work.{worked}
use Rattle.fields.specs.Refusal.{body_refusal}
pub use Rattle.fields.specs.Effect.{Used}
use Rattle.states.specs.declared.State.{State}
use Rattle.states.specs.State.{viewed, left}
use Rattle.states.specs.Answer.{answer_of}
use Rattle.states.specs.Taken.{taken}
use Rattle.advance.specs.declared.Advanced.{Advanced}

-- whether a step was worked out: it was accepted, or refused for its result
abbrev pub step_worked : Model.State → List ℕ → Bool
step_worked u f = cond u.over false ((describe (kind_of (tag f))).works && worked (refusal u f))

-- the same of a field of the kind k with the body b, given to the set of a state's record
abbrev pub field_works : Kind → List ℕ → State → Bool
field_works k b st = (describe k).works && worked (body_refusal k b st.next (view st.set))

-- the field f, which begins at this place
unfoldable pub advanced : ℕ → State → List ℕ → Advanced
advanced place st f = record {
  answer = (taken place st f).answer;
  state = (taken place st f).state;
  worked = step_worked (viewed st) f;
}

-- ---- by the kind and the body, where the header passed and the run isn't over
-- what is answered and left for a refusal, if any
abbrev pub by_cause : ℕ → State → Kind → List ℕ → ℕ → Option ℕ → Advanced
by_cause place st k b bytes o = let m = meaning k b st.next (current (viewed st)) in record {
  answer = answer_of (record { field = st.count; outcome = elim o [ none ↦ m.outcome | some n ↦ refused n place ] }) bytes;
  state = left st (elim o [ none ↦ accepted_by (viewed st) m | some n ↦ refused_at (viewed st) ]);
  worked = (describe k).works && worked o;
}

unfoldable pub kind_advanced : ℕ → State → Kind → List ℕ → ℕ → Advanced
kind_advanced place st k b bytes = by_cause place st k b bytes (body_refusal k b st.next (current (viewed st)))
