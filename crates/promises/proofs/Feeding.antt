-- Promised of an input that comes in pieces, however it is cut: what is handed over is what is printed for it.
use mathlib.Core.Path.{◌≡◌}
use mathlib.Core.List.{List, ◌++◌}
use mathlib.Core.Bool.{true}
use Prim.Native.Nat.{ℕ, ◌≤◌}
use lib.ListN.{length}
use Rattle.rational.specs.Sum.{All}
use Rattle.model.specs.Text.{printed}
use Rattle.text.specs.Lines.{longest_line}
use Rattle.streams.specs.Pieces.{Call, end_calls, calls, before_calls, pieces_joined}
use Rattle.feeding.specs.Fed.{feeder}
use Rattle.feeding.proofs.Pieces as Pieces

-- Once the last line is given, what was handed over, joined, is what is printed for the pieces joined.
pub as_printed : (cs : List Call) (rooms : List ℕ)
    → (let s = end_calls feeder rooms (calls feeder cs (before_calls feeder)) in s.progress.done ≡ true → s.text ≡ printed (pieces_joined cs))
as_printed = Pieces.as_printed

-- Where a refusal gave it, that holds whatever would still come.
pub whatever_follows : (cs : List Call) (more : List ℕ)
    → (let s = calls feeder cs (before_calls feeder) in s.progress.done ≡ true → s.text ≡ printed (pieces_joined cs ++ more))
whatever_follows = Pieces.whatever_follows

-- Before, it is how the output begins, whatever follows.
pub begins : (cs : List Call) (more : List ℕ)
    → (later : List ℕ) × (printed (pieces_joined cs ++ more) ≡ (calls feeder cs (before_calls feeder)).text ++ later)
begins = Pieces.begins

-- The last line comes: after the end, 4,098 calls with room for a longest line are enough.
pub ends : (cs : List Call) (rooms : List ℕ) → All (longest_line ≤◌) rooms → 4098 ≤ length rooms
    → (end_calls feeder rooms (calls feeder cs (before_calls feeder))).progress.done ≡ true
ends = Pieces.ends
