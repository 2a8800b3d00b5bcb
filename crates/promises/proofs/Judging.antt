-- Promised of a log and a run file that comes in pieces, however it is cut: what is handed over is what is printed for them.
use mathlib.Core.Path.{◌≡◌}
use mathlib.Core.List.{List, ◌++◌}
use mathlib.Core.Bool.{true}
use Prim.Native.Nat.{ℕ, ◌≤◌}
use lib.ListN.{length}
use Rattle.readings.specs.Asked.{asked}
use Rattle.readings.specs.Held.{held}
use Rattle.streams.specs.Pieces.{Call, end_calls, calls, before_calls, pieces_joined}
use Rattle.judging.specs.Judged.{judge}
use Rattle.judging.proofs.Most as Most
use Rattle.judging.proofs.Pieces as Pieces

-- Once the last line is given, what was handed over, joined, is what is printed for the log and the pieces joined.
pub as_held : (log : List ℕ) (cs : List Call) (rooms : List ℕ)
    → (let s = end_calls (judge log) rooms (calls (judge log) cs (before_calls (judge log))) in
    s.progress.done ≡ true → s.text ≡ held log (pieces_joined cs))
as_held = Pieces.as_held

-- Where a refusal gave it, that holds whatever would still come.
pub whatever_follows : (log : List ℕ) (cs : List Call) (more : List ℕ)
    → (let s = calls (judge log) cs (before_calls (judge log)) in s.progress.done ≡ true → s.text ≡ held log (pieces_joined cs ++ more))
whatever_follows = Pieces.whatever_follows

-- Before, it is how the output begins, whatever follows.
pub begins : (log : List ℕ) (cs : List Call) (more : List ℕ)
    → (later : List ℕ) × (held log (pieces_joined cs ++ more) ≡ (calls (judge log) cs (before_calls (judge log))).text ++ later)
begins = Pieces.begins

-- A run asks for at most 24,582 entries; so what stands in a log after 122,911 bytes changes nothing.
pub asked-most : (input : List ℕ) → length (asked input) ≤ 24582
asked-most = Most.asked-most

pub surplus : (log more : List ℕ) → 122911 ≤ length log → (input : List ℕ) → held (log ++ more) input ≡ held log input
surplus = Most.surplus
