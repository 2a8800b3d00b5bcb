-- Promised of a log held against a run: what its lines and its counts say.
use mathlib.Core.Path.{◌≡◌}
use mathlib.Core.List.{List, [], ◌++◌}
use mathlib.Core.Option.{none, some}
use mathlib.Core.Bool.{false}
use Prim.Native.Nat.{ℕ, ◌+◌, ◌*◌, ◌≤◌, ◌<◌}
use lib.IntN.{pos, nat_abs}
use lib.ListN.{length, get_or}
use Rattle.rational.specs.Rational.{ι, ◌*ℚ◌}
use Rattle.floats.specs.Bits.{value}
use Rattle.model.specs.Set.{Zonotope, at}
use Rattle.model.specs.Valid.{is_too_wide}
use Rattle.model.specs.Operations.{box}
use Rattle.model.specs.Field.{check}
use Rattle.model.specs.Run.{tag, kind_of, fields}
use Rattle.model.specs.Motion.{Picks, Allowed}
use Rattle.model.specs.Reading.{bytes, parts, line_end, line_ends}
use Rattle.model.specs.Promised.{accepted_fields, field_at, coordinates, position}
use Rattle.readings.specs.Entry.{Entry, entry_at, Standing}
use Rattle.readings.specs.Asked.{asked}
use Rattle.readings.specs.Held.{judged, counts_of, how_many, held}
use Rattle.readings.specs.Ruled.{entry_of}
use Rattle.readings.proofs.Counted as Counted
use Rattle.readings.proofs.Ruled as Ruled
use Rattle.readings.proofs.Ends as Ends

-- Where a line of how an output begins is `outside`, no motion is at the reading of its entry.
pub ruled : (log input output later : List ℕ) → held log input ≡ output ++ later
    → (m i bits : ℕ) → m < accepted_fields input → ¬ (kind_of (tag (field_at input m)) ≡ check) → i < coordinates input m
    → (let j = entry_of input m i in entry_at log (5 * j) ≡ some (Entry.reading bits)
    → j < line_ends output → get_or (parts line_end output) j [] ≡ bytes "outside"
    → (p : Picks) → Allowed p (fields input) → ¬ (position p input m i ≡ ι (pos 4096) *ℚ value bits))
ruled = Ruled.ruled

-- Each count is the number of its lines; together they are all lines.
pub counts_match : (ss : List Standing) → counts_of ss
    ≡ record { inside = how_many Standing.inside ss; outside = how_many Standing.outside ss; missing = how_many Standing.missing ss }
counts_match = Counted.counts_match

pub counts-total : (ss : List Standing) → (let c = counts_of ss in c.inside + c.outside + c.missing ≡ length ss)
counts-total = Counted.counts-total

-- Where nothing is refused every entry that the run asks for has a line; what is refused stands right after those that have one.
pub all_held : (log input : List ℕ) → (judged log input).refused ≡ none → length (judged log input).standings ≡ length (asked input)
all_held = Counted.all_held

pub refused-at : (log input : List ℕ) (p : ℕ) → (judged log input).refused ≡ some p → p ≡ 5 * length (judged log input).standings
refused-at = Counted.refused-at

-- The ends of a box that a run answers are at most 1,048,576, which a float of 32 bits holds exactly.
pub box_small : (s : Zonotope) → is_too_wide s ≡ false → (k : ℕ)
    → (nat_abs (at (box s).lows k) ≤ 1048576) × (nat_abs (at (box s).highs k) ≤ 1048576)
box_small = Ends.box_small
