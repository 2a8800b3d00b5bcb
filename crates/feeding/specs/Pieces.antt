-- What is claimed of an input that comes in pieces, however it is cut: what the calls hand over, joined, is what is printed for the input.
-- The theorems are in proofs/Pieces.antt.
use Rattle.std.specs.Prelude.{◌≡◌, List, true, ℕ, ◌≤◌, length}
use Rattle.rational.specs.Sum.{All}
use Rattle.model.specs.Text.{printed}
use Rattle.text.specs.Lines.{longest_line}
use Rattle.streams.specs.Pieces as Pieces
use Rattle.streams.specs.Pieces.{Call, end_calls, calls, before_calls}
use Rattle.feeding.specs.Fed.{feeder}

-- Once the last line is given, what was handed over is what is printed for the pieces joined.
abbrev pub AsPrinted : Type 0
AsPrinted = Pieces.AsPrinted feeder printed

-- Where a refusal gave it, that holds whatever would still come.
abbrev pub WhateverFollows : Type 0
WhateverFollows = Pieces.WhateverFollows feeder printed

-- Before, it is how the output begins, whatever follows.
abbrev pub Begins : Type 0
Begins = Pieces.Begins feeder printed

-- The last line comes: after the end, 4,098 calls with room for a longest line are enough.
abbrev pub Ends : Type 0
Ends = (cs : List Call) (rooms : List ℕ) → All (longest_line ≤◌) rooms → 4098 ≤ length rooms
    → (end_calls feeder rooms (calls feeder cs (before_calls feeder))).progress.done ≡ true
