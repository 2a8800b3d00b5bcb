-- `fold::fold_rows` meets its contract: the core after k rows, by the laws of `folded` and `Bounded`.
use Rattle.std.proofs.Common.{◌≡◌, ℕ, ◌<◌, Bool, length}
use Rattle.fold.specs.Folding.{core_of, folded, Bounded}
use Rattle.fold.proofs.fold_rows.Given as goal

abbrev pub invariant-loop-k : goal.invariant-loop-k
invariant-loop-k g l =
    Bounded l.k l.fn.core.centre l.folded.centre l.fn.core.radii l.folded.radii
    × ((b : ℕ → Bool) → ((k : ℕ) (r : Bool) → k < length l.gone → goal.F-post g l.even k r → r ≡ b k) →
    core_of l.folded.centre l.folded.radii ≡ folded l.s l.gone b l.k (core_of l.fn.core.centre l.fn.core.radii))
