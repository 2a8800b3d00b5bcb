-- `forms::dot_rows` meets its contract: six products of 21-bit and 39-bit numbers.
use Rattle.std.proofs.Common.{◌≡◌, ◌≤◌, length}
use Rattle.model.specs.Step.{dot}
use Rattle.forms.specs.Tables.{row_of}
use Rattle.forms.proofs.dot_rows.Given as goal

abbrev pub invariant-loop-x : goal.invariant-loop-x
invariant-loop-x l = (length l.yielded ≤ 6) × (l.sum ≡ dot (length l.yielded) (row_of l.u l.s) (row_of l.v l.t))
