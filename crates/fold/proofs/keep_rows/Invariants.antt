-- `fold::keep_rows` meets its contract, by the laws of `Keeping`.
use mathlib.Core.Path.{◌≡◌}
use Prim.Native.Nat.{ℕ}
use lib.ListN.{length}
use Rattle.rows.specs.Rows.{number_row, Small}
use Rattle.fold.specs.Marks.{unmarked}
use Rattle.fold.specs.Keeping.{Keeping}
use Rattle.fold.proofs.keep_rows.Given as goal

abbrev pub invariant-loop-k : goal.invariant-loop-k
invariant-loop-k l =
    (length l.s ≡ length l.initial.s) × Keeping number_row (unmarked l.gone) l.initial.s l.s l.m l.k × ((b : ℕ) → Small b l.initial.s → Small b l.s)
