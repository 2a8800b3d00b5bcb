-- `rewrite::run` meets its contract. The measure is the number of reads that may still be made.
use Rattle.std.specs.Prelude.{◌≡◌, length}
use Rattle.rewrite.specs.Along.{Along}
use Rattle.rewrite.proofs.run.Given as goal

abbrev pub invariant-loop-flow : goal.invariant-loop-flow
invariant-loop-flow l = (length l.buf ≡ 65536) × (length l.out ≡ 65564) × Along l.flow

abbrev pub decreases-loop-flow : goal.decreases-loop-flow
decreases-loop-flow l = l.flow.allowed
