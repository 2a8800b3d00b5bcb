-- `raw::terms::linear_numbers` meets its contract: each row is written in turn.
use Prim.Native.Nat.{ℕ, ◌*◌, ◌/◌, ◌%◌}
use Rattle.model.specs.Step.{dot}
use Rattle.forms.specs.Tables.{row_of}
use Rattle.forms.specs.Filling.{Writing}
use Rattle.raw.proofs.terms.linear_numbers.Given as goal

abbrev pub invariant-loop-t : goal.invariant-loop-t
invariant-loop-t l = Writing l.initial.w 0 (λ (y : ℕ). dot 6 (row_of l.v (y / 6)) (row_of l.lines (y % 6))) (l.rows * 6) (l.t * 6) l.w
