-- However an input is cut into pieces, what the calls hand over is what is printed for it, and the last line comes.
-- The statements are in specs/Pieces.antt.
use mathlib.Core.Path.{◌≡◌, refl, sym, subst}
use mathlib.Core.List.{List, [], ◌∷◌, ◌++◌}
use mathlib.Core.Bool.{Bool, true, false, cond}
use Prim.Native.Nat.{ℕ, suc, ◌-◌, ◌≤◌}
use native.Mathlib.Omega.{arith}
use lib.ListN.{length}
use Rattle.rational.specs.Sum as Sum
use Rattle.rational.specs.Sum.{All}
use Rattle.model.specs.Text.{printed}
use Rattle.text.specs.Lines.{longest_line}
use Rattle.states.specs.State.{viewed}
use Rattle.streams.specs.Machine.{Turns, fed}
use Rattle.streams.specs.Pieces.{Call, Standing, before_calls, called, calls, end_calls}
use Rattle.streams.proofs.Ready.{ready_by}
use Rattle.streams.proofs.Turns.{done_fed, fed-reached}
use Rattle.streams.proofs.Ending.{fed-falls}
use Rattle.streams.proofs.Pieces as Pieces
use Rattle.streams.proofs.Pieces.{calls-reached}
use Rattle.feeding.specs.declared.Progress.{Progress}
use Rattle.feeding.specs.Fed.{feeder}
use Rattle.feeding.specs.Reached.{Reached, turns_left}
use Rattle.feeding.specs.Pieces.{AsPrinted, WhateverFollows, Begins, Ends}
use Rattle.feeding.proofs.OneTurn.{lawful, ending, starting_prints}

-- Once the last line is given, what was handed over is what is printed for the pieces joined.
pub as_printed : AsPrinted
as_printed = Pieces.as_printed lawful printed starting_prints

-- Where a refusal gave it, that holds whatever would still come.
pub whatever_follows : WhateverFollows
whatever_follows = Pieces.whatever_follows lawful printed starting_prints

-- Before, it is how the output begins, whatever follows.
pub begins : Begins
begins = Pieces.begins lawful printed starting_prints

-- ---- the last line comes
-- a call after the end leaves fewer turns, or the last line was given before
fewer : (room : ℕ) (s : Standing Progress) → Reached s.progress → longest_line ≤ room → (n : ℕ) → turns_left s.progress ≤ suc n
    → turns_left (called feeder true (record { piece = []; room = room }) s).progress ≤ n
fewer room s r l n h = go s.progress.done refl
  where
    go : (b : Bool) → s.progress.done ≡ b → turns_left (fed feeder true room s.progress (s.rest ++ [])).progress ≤ n
    go true d =
        subst (λ (t : Turns Progress). turns_left t.progress ≤ n) (sym (done_fed feeder true room s.progress (s.rest ++ []) d))
        (subst (λ b. cond b 0 (4098 - s.progress.state.count) ≤ n) (sym d) (omega arith))
    go false d =
        let can = ready_by longest_line s.progress.done true room (s.rest ++ []) d l in
        omega (arith, fed-falls lawful ending true room s.progress (s.rest ++ []) r can)

-- where no turn can follow, it was given
none_left : (p : Progress) → Reached p → turns_left p ≤ 0 → p.done ≡ true
unfolding viewed
none_left p r h = go p.done refl
  where
    go : (b : Bool) → p.done ≡ b → p.done ≡ true
    go true d = d
    go false d =
        absurd (omega (arith, subst (λ b. cond b 0 (4098 - p.state.count) ≤ 0) d h, r.sound.count_in))

ends_by : (rooms : List ℕ) (s : Standing Progress) → Reached s.progress → All (longest_line ≤◌) rooms → turns_left s.progress ≤ length rooms
    → (end_calls feeder rooms s).progress.done ≡ true
unfolding end_calls
ends_by [] s r a h = none_left s.progress r h
ends_by (room ∷ rooms) s r (Sum.more l a) h =
    let c : Call = record { piece = []; room = room } in
    ends_by rooms (called feeder true c s) (fed-reached lawful true room s.progress (s.rest ++ []) r) a (fewer room s r l (length rooms) h)

-- The last line comes: after the end, 4,098 calls with room for a longest line are enough.
pub ends : Ends
ends cs rooms a h =
    ends_by rooms (calls feeder cs (before_calls feeder)) (calls-reached lawful cs (before_calls feeder) lawful.begins) a
    (at_most (calls feeder cs (before_calls feeder)).progress.done (calls feeder cs (before_calls feeder)).progress.state.count (length rooms) h)
  where
    at_most : (b : Bool) (count n : ℕ) → 4098 ≤ n → cond b 0 (4098 - count) ≤ n
    at_most true count n h = omega arith
    at_most false count n h = omega arith
