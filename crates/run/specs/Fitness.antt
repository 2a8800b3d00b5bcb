-- A call that can be taken: its state is one that a run can have.
use Rattle.std.specs.Prelude.{◌≡◌, ◌||◌, ◌<◌, ltb, length}
use Rattle.std.proofs.Common.{◌∙◌, ap, arith, eq-eqb}
use Rattle.std.proofs.Math.Option.{none}
use Rattle.std.proofs.Math.Bool.{or-false}
use Rattle.whole.specs.Tab.{any}
use Rattle.model.specs.Limits.{first_fresh, last_fresh, max_dimension}
use Rattle.model.specs.Run.{first_of, current, no_set}
use Rattle.model.specs.Library.{bad_next}
use Rattle.zonotope.specs.Record.{view}
use Rattle.answers.specs.Accepted.{AcceptedRecord}
use Rattle.states.specs.declared.State.{State}
use Rattle.states.specs.State.{viewed}
use Rattle.advance.specs.Running.{Running, current_is}
use Rattle.run.specs.Unfit.{of_rest, rest-passed, few_totals}

-- before the first accepted field
no-set : (st : State) → st.count ≡ 0 → current (viewed st) ≡ no_set
unfolding viewed
no-set st z = rw (eq-eqb st.count 0 z)

pub first_running : (st : State) → st.count ≡ 0 → length st.folded ≡ max_dimension
    → first_of (of_rest (ltb st.next first_fresh || ltb last_fresh st.next) st.folded) ≡ none → Running st
unfolding any
first_running st z six e = let p = rest-passed _ st.folded e in record {
  set = λ h. absurd (omega arith);
  next = ap (bad_next st.next) (no-set st z) ∙ or-false _ ∙ p.0;
  six_totals = six;
  totals = few_totals st.folded p.1;
}

-- later
pub later_running : (st : State) → 0 < st.count → AcceptedRecord st.set → length st.folded ≡ max_dimension
    → first_of (of_rest (bad_next st.next (view st.set)) st.folded) ≡ none → Running st
later_running st h a six e = let p = rest-passed _ st.folded e in record {
  set = λ _. a;
  next = ap (bad_next st.next) (current_is st h) ∙ p.0;
  six_totals = six;
  totals = few_totals st.folded p.1;
}
