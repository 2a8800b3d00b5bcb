-- A state that a run can have: its set, where a field was accepted, is valid, its next identifier is in its range and above the set's, and
-- its totals of what folding added are those of a run.
use Rattle.std.specs.Prelude.{◌≡◌, false, ℕ, ◌<◌, ◌≤◌, length, get_or}
use Rattle.std.proofs.Common.{arith, ne_eqb}
use Rattle.model.specs.Limits.{max_dimension, max_total}
use Rattle.model.specs.Run.{current}
use Rattle.model.specs.Library.{bad_next}
use Rattle.model.proofs.ByKind.{starts}
use Rattle.zonotope.specs.Record.{view}
use Rattle.answers.specs.Accepted.{AcceptedRecord}
use Rattle.fields.specs.declared.Kind.{Kind}
use Rattle.fields.specs.Kinds.{meant}
use Rattle.states.specs.declared.State.{State}
use Rattle.states.specs.State.{viewed}

pub record Running (st : State) : Type 0 where
  pub set : 0 < st.count → AcceptedRecord st.set
  pub next : bad_next st.next (current (viewed st)) ≡ false
  pub six_totals : length st.folded ≡ max_dimension
  pub totals : (i : ℕ) → get_or st.folded i 0 ≤ max_total

-- a field of this kind may follow: the first is a start set, no later one is, and there are not too many
pub record Ready (st : State) (k : Kind) : Type 0 where
  pub running : Running st
  pub few : st.count ≤ 4096
  pub there : starts (meant k) ≡ false → 0 < st.count

-- the current set, where there is one
pub current_is : (st : State) → 0 < st.count → current (viewed st) ≡ view st.set
unfolding viewed
current_is st h = rw (ne_eqb st.count 0 (λ z. omega arith))
