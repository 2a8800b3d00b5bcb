-- The folded parts of a field's result: those that folding started from, with what it added.
use mathlib.Core.Path.{◌≡◌}
use mathlib.Core.List.{List}
use Prim.Native.Nat.{ℕ, ◌+◌}
use lib.ListN.{get_or}
use Rattle.model.specs.Set.{Zonotope}
use Rattle.model.specs.Field.{Kind, meaning}
pub use Rattle.model.proofs.Folding.{finish_folded, finish-radius}
pub use Rattle.model.proofs.Laws.{folded_before}
use Rattle.model.proofs.Kind.{laws}

pub folds_join : (k : Kind) (b : List ℕ) (next : ℕ) (s : Zonotope) (i : ℕ)
    → get_or (meaning k b next s).result.radii.folded i 0 ≡ get_or (folded_before k s) i 0 + get_or (meaning k b next s).folds i 0
folds_join k b next s i = (laws k).folds_join b next s i
