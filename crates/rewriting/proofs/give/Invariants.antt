-- `rewriting::give` meets its contract. The measure is what is left of the piece.
use mathlib.Core.Path.{◌≡◌}
use Prim.Native.Nat.{◌+◌, ◌-◌, ◌≤◌}
use lib.ListN.{length, take}
use Rattle.rewriting.specs.Given.{many_bytes}
use Rattle.rewriting.specs.Done.{Done}
use Rattle.rewriting.proofs.give.Given as goal

abbrev pub invariant-loop-used : goal.invariant-loop-used
invariant-loop-used l =
    (l.used ≤ length l.piece) × (length l.out ≡ length l.initial.out)
    × Done (l.initial.held.count + l.used) (many_bytes l.initial.held (take l.used l.piece)) l.initial.out l.out 0 (record { held = l.held; written = l.written })

abbrev pub decreases-loop-used : goal.decreases-loop-used
decreases-loop-used l = length l.piece - l.used
