-- Promised of the record of a set.
use mathlib.Core.Path.{◌≡◌}
use mathlib.Core.Bool.{false}
use Rattle.model.specs.Set.{Zonotope}
use Rattle.model.specs.Valid.{bad_counts}
use Rattle.model.proofs.Shape.{Shaped}
use Rattle.zonotope.specs.declared.PolyZonotope.{PolyZonotope}
use Rattle.zonotope.specs.Record.{spare, pack, view}
use Rattle.zonotope.specs.Shape.{Sized}
use Rattle.zonotope.specs.CallNumbers.{CallNumbers}
use Rattle.zonotope.proofs.CallNumbers as CallNumbering
use Rattle.zonotope.proofs.PackView as PackView
use Rattle.zonotope.proofs.ViewPack as ViewPack

-- A record whose arrays have their lengths and whose unused places are 0 is the record of its meaning.
pub pack-view : (s : PolyZonotope) → Sized s → spare s ≡ false → pack (view s) ≡ s
pack-view = PackView.pack-view

-- A shaped set whose counts are in range is the meaning of its record.
pub view-pack : (m : Zonotope) → Shaped m → bad_counts m ≡ false → view (pack m) ≡ m
view-pack = ViewPack.view-pack

-- Each number with which a call on records refuses is that of its cause, so that `cause.number()` is the number of the call's list.
pub call_numbers : CallNumbers
call_numbers = CallNumbering.call_numbers
