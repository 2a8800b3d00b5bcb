-- The state of a run as a record: what it means, and what a field leaves.
use Rattle.std.proofs.Math.Option.{none, some}
use Rattle.std.specs.Prelude.{false, cond, eqb}
use Rattle.model.specs.Limits.{first_fresh}
use Rattle.model.specs.Set.{blank}
use Rattle.model.specs.Run as Model
use Rattle.model.specs.Run.{current, no_set}
use Rattle.zonotope.specs.Record.{view, pack}
use Rattle.states.specs.declared.State.{State}

-- what a state means: before the first accepted field there is no set
unfoldable pub viewed : State → Model.State
viewed st = record {
  set = cond (eqb st.count 0) none (some (view st.set));
  next = st.next;
  count = st.count;
  over = st.over;
  folded = st.folded;
}

-- the record of a state
abbrev pub record_of : Model.State → State
record_of u = record { set = pack (current u); next = u.next; count = u.count; over = u.over; folded = u.folded }

-- the state with which a run begins
abbrev pub beginning : State
beginning = record { set = pack no_set; next = first_fresh; count = 0; over = false; folded = blank 6 }

-- what stands after a field that leaves u: the record of its set, or where the run is over the set as it stood before
unfoldable pub left : State → Model.State → State
left st u = record {
  set = cond u.over st.set (pack (current u));
  next = u.next;
  count = u.count;
  over = u.over;
  folded = u.folded;
}
