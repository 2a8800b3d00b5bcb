-- `feeding::machine::feed` meets its contract. The measure is the number of turns that can follow.
use Rattle.std.specs.Prelude.{◌≡◌, length}
use Rattle.streams.proofs.Underway.{Underway, turns_left}
use Rattle.feeding.proofs.machine.feed.Given as goal

abbrev pub invariant-loop-progress : goal.invariant-loop-progress
invariant-loop-progress g l =
    let m = g.M.FieldMachine in
    (length l.out ≡ length l.initial.out) × (length l.numbers ≡ length l.initial.numbers) × (length l.exponents ≡ length l.initial.exponents)
    × Underway (m.machine l.log) m.reached l.ended (length l.initial.out) l.initial.progress l.rest l.initial.out l.progress l.used l.written l.out
    × m.placed l.progress

abbrev pub decreases-loop-progress : goal.decreases-loop-progress
decreases-loop-progress g l =
    let m = g.M.FieldMachine in
    turns_left (m.machine l.log) m.reached l.ended (length l.initial.out) l.initial.progress l.rest l.initial.out l.progress l.used
