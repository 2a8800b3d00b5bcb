-- The next field begins within the input.
use Rattle.std.specs.Prelude.{◌-◌, ◌≤◌, length}
use Rattle.design.proofs.play.Given as goal

abbrev pub invariant-loop-fields : goal.invariant-loop-fields
invariant-loop-fields g l = l.at ≤ length l.input

abbrev pub decreases-loop-fields : goal.decreases-loop-fields
decreases-loop-fields g l = 4098 - l.fields
