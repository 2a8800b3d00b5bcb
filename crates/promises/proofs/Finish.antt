-- Promised of finishing with rows of a fixed width.
use mathlib.Core.Path.{◌≡◌}
use mathlib.Core.List.{List}
use Prim.Native.Nat.{ℕ}
use Rattle.model.specs.Set.{Zonotope}
use Rattle.model.specs.Finish.{finish}
use Rattle.zonotope.specs.Record.{pack}
use Rattle.finish.specs.Wide.{wide, wide_numbers}
use Rattle.finish.specs.WideFinish.{Narrow}
use Rattle.finish.specs.WideFinish as WideFinish
use Rattle.finish.specs.WideRecord as WideRecord

-- Finishing a set with wide rows gives the finished set, its numbers wide.
pub finish-wide : (weights : List ℕ) (h q : ℕ) (s : Zonotope) → Narrow s
    → finish weights h q (wide s) ≡ wide_numbers (finish weights h q s)
finish-wide = WideFinish.finish-wide

-- A wide set, finished, has the record of the set, finished.
pub finish-pack : (weights : List ℕ) (h q : ℕ) (s : Zonotope) → Narrow s → pack (finish weights h q (wide s)) ≡ pack (finish weights h q s)
finish-pack = WideRecord.finish-pack
