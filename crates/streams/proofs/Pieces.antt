-- However an input is cut into pieces, what the calls hand over is what is printed for it, and the last line comes. The statements are in
-- specs/Pieces.antt.
use mathlib.Core.Path.{◌≡◌, refl, sym, ap, ◌∙◌}
use mathlib.Core.List.{List, [], ◌∷◌, ◌++◌, append_assoc, append-nil}
use mathlib.Core.Bool.{Bool, true, false, true≢false}
use Prim.Native.Nat.{ℕ, ◌≤◌, ◌<◌}
use native.Mathlib.Decide.{dec_lt}
use native.Mathlib.Omega.{arith}
use lib.ListN.{length, drop, length-drop}
use Rattle.rational.specs.Sum as Sum
use Rattle.rational.specs.Sum.{All}
use Rattle.streams.specs.Machine.{Turns, Machine, fed}
use Rattle.streams.specs.Laws.{Lawful}
use Rattle.streams.specs.Pieces.{Call, Standing, pieces_joined, before_calls, called, calls, end_calls}
use Rattle.streams.specs.Pieces.{AsPrinted, WhateverFollows, Begins, Ends}
use Rattle.streams.proofs.Ready.{ready_by}
use Rattle.streams.proofs.Turns.{fed-reached, fed_prints, fed_gets_on, fed-ends, done_fed}

module _ {P : Type 0} {m : Machine P} {Reached : P → Type 0} {remaining : P → List ℕ → List ℕ} (law : Lawful m Reached remaining) where
  -- what was handed over, and what is still to be printed
  abbrev output : Standing P → List ℕ → List ℕ
  output s more = s.text ++ remaining s.progress (s.rest ++ more)

  called_prints : (ended : Bool) (c : Call) (s : Standing P) → Reached s.progress → (more : List ℕ) → (ended ≡ true → more ≡ [])
      → output s (c.piece ++ more) ≡ output (called m ended c s) more
  called_prints ended c s r more last =
      let buffer = s.rest ++ c.piece in
      let t = fed m ended c.room s.progress buffer in
      ap (λ l. s.text ++ remaining s.progress l) (sym (append_assoc s.rest c.piece more))
      ∙ ap (s.text ++◌) (fed_prints law ended c.room s.progress buffer r more last)
      ∙ sym (append_assoc s.text t.text (remaining t.progress (drop t.used buffer ++ more)))

  called-reached : (ended : Bool) (c : Call) (s : Standing P) → Reached s.progress → Reached (called m ended c s).progress
  called-reached ended c s r = fed-reached law ended c.room s.progress (s.rest ++ c.piece) r

  pub calls-reached : (cs : List Call) (s : Standing P) → Reached s.progress → Reached (calls m cs s).progress
  unfolding calls
  calls-reached [] s r = r
  calls-reached (c ∷ cs) s r = calls-reached cs (called m false c s) (called-reached false c s r)

  calls_print : (cs : List Call) (s : Standing P) → Reached s.progress → (more : List ℕ)
      → output s (pieces_joined cs ++ more) ≡ output (calls m cs s) more
  unfolding calls pieces_joined
  calls_print [] s r more = refl
  calls_print (c ∷ cs) s r more =
      ap (output s) (append_assoc c.piece (pieces_joined cs) more)
      ∙ called_prints false c s r (pieces_joined cs ++ more) (λ e. absurd (true≢false (sym e)))
      ∙ calls_print cs (called m false c s) (called-reached false c s r) more

  end_calls_print : (rooms : List ℕ) (s : Standing P) → Reached s.progress → output s [] ≡ output (end_calls m rooms s) []
  unfolding end_calls
  end_calls_print [] s r = refl
  end_calls_print (room ∷ rooms) s r =
      let c : Call = record { piece = []; room = room } in
      called_prints true c s r [] (λ e. refl) ∙ end_calls_print rooms (called m true c s) (called-reached true c s r)

  given-all : (s : Standing P) (more : List ℕ) → m.done s.progress ≡ true → output s more ≡ s.text
  given-all s more d = ap (s.text ++◌) (law.silent s.progress (s.rest ++ more) d) ∙ append-nil s.text

  -- ---- from the start, where all of the input is to be printed
  module _ (printed : List ℕ → List ℕ) (all : (input : List ℕ) → remaining m.starting input ≡ printed input) where
    from-begun : (cs : List Call) (more : List ℕ) → printed (pieces_joined cs ++ more) ≡ output (calls m cs (before_calls m)) more
    from-begun cs more = sym (all (pieces_joined cs ++ more)) ∙ calls_print cs (before_calls m) law.begins more

    pub as_printed : AsPrinted m printed
    as_printed cs rooms d =
        sym (ap printed (sym (append-nil (pieces_joined cs))) ∙ from-begun cs []
        ∙ end_calls_print rooms (calls m cs (before_calls m)) (calls-reached cs (before_calls m) law.begins)
        ∙ given-all (end_calls m rooms (calls m cs (before_calls m))) [] d)

    pub whatever_follows : WhateverFollows m printed
    whatever_follows cs more d = sym (from-begun cs more ∙ given-all (calls m cs (before_calls m)) more d)

    pub begins : Begins m printed
    begins cs more = (remaining (calls m cs (before_calls m)).progress ((calls m cs (before_calls m)).rest ++ more), from-begun cs more)

  -- ---- the last line comes
  stays_done : (rooms : List ℕ) (s : Standing P) → m.done s.progress ≡ true → m.done (end_calls m rooms s).progress ≡ true
  unfolding end_calls
  stays_done [] s d = d
  stays_done (room ∷ rooms) s d =
      stays_done rooms (called m true (record { piece = []; room = room }) s)
      (ap (λ (t : Turns P). m.done t.progress) (done_fed m true room s.progress (s.rest ++ []) d) ∙ d)

  ends_by : (rooms : List ℕ) (s : Standing P) → Reached s.progress → All (m.longest ≤◌) rooms → length s.rest < length rooms
      → m.done (end_calls m rooms s).progress ≡ true
  unfolding end_calls
  ends_by [] s r a h = absurd (omega arith)
  ends_by (room ∷ rooms) s r (Sum.more l a) h =
      go (m.done s.progress) refl (dec_lt 0 (length s.rest))
      (ends_by rooms (called m true c s) (called-reached true c s r) a)
    where
      c : Call
      c = record { piece = []; room = room }

      go : (b : Bool) → m.done s.progress ≡ b → Dec (0 < length s.rest)
          → (length (called m true c s).rest < length rooms → m.done (end_calls m rooms (called m true c s)).progress ≡ true)
          → m.done (end_calls m rooms (called m true c s)).progress ≡ true
      go true d k ih =
          stays_done rooms (called m true c s)
          (ap (λ (t : Turns P). m.done t.progress) (done_fed m true room s.progress (s.rest ++ []) d) ∙ d)
      go false d (yes k) ih =
          let e = append-nil s.rest in
          let n = ap length e in
          let on = ready_by m.longest (m.done s.progress) true room (s.rest ++ []) d l in
          let u = fed_gets_on law true room s.progress (s.rest ++ []) r on (omega arith) in
          ih (omega (arith, length-drop (fed m true room s.progress (s.rest ++ [])).used (s.rest ++ [])))
      go false d (no k) ih =
          let n = ap length (append-nil s.rest) in
          stays_done rooms (called m true c s)
          (fed-ends law true room s.progress (s.rest ++ []) r (ready_by m.longest (m.done s.progress) true room (s.rest ++ []) d l) (omega arith))

  pub last-comes : Ends m
  last-comes cs rooms a h = ends_by rooms (calls m cs (before_calls m)) (calls-reached cs (before_calls m) law.begins) a h
