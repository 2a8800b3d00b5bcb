-- `following::whole` meets its contract.
use Prim.Native.Nat.{◌-◌}
use Rattle.run.proofs.Turning.{Following}
use Rattle.run.proofs.following.whole.Given as goal

abbrev pub invariant-loop-state : goal.invariant-loop-state
invariant-loop-state l = Following l.input l.initial.w l.w l.initial.e l.e l.at l.state l.worked

abbrev pub decreases-loop-state : goal.decreases-loop-state
decreases-loop-state l = 4098 - l.state.count
