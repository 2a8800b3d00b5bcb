-- `fold::keep_places` meets its contract, by the laws of `Keeping`.
use mathlib.Core.List.{List}
use mathlib.Core.Path.{◌≡◌}
use Prim.Native.Nat.{ℕ}
use lib.ListN.{length, get_or}
use Rattle.rows.specs.Rows.{Places}
use Rattle.fold.specs.Marks.{unmarked}
use Rattle.fold.specs.Keeping.{Keeping}
use Rattle.fold.proofs.keep_places.Given as goal

abbrev pub invariant-loop-k : goal.invariant-loop-k
invariant-loop-k l =
    (length l.heads ≡ length l.initial.heads) × Keeping (λ (l : List ℕ) (i : ℕ). get_or l i 0) (unmarked l.gone) l.initial.heads l.heads l.m l.k
    × ((e : List ℕ) → Places e l.initial.heads → Places e l.heads)
