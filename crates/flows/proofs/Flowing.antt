-- A turn of the program keeps what it knows, and fewer can follow; its end.
use mathlib.Core.Path.{◌≡◌, refl, sym, ap, ap₂, ◌∙◌, subst}
use mathlib.Core.Bool.{Bool, true, false, not, cond, ◌&&◌, ◌||◌, true≢false, and-false}
use mathlib.Core.List.{List, [], ◌∷◌, ◌++◌, append_assoc, append-nil}
use Prim.Native.Nat.{ℕ, suc, ◌+◌, ◌-◌, ◌≤◌, ◌<◌}
use native.Mathlib.Omega.{arith}
use borrow.Author.Tests.{eqb-false}
use Rattle.whole.specs.Tests.{or_left, or_right}
use lib.Dec.{eqb}
use lib.ListN.{length, take, drop, length-take, length-drop, length-append}
use lib.Seq.{length-take-le, take-append-add, take-append-le}
use Rattle.model.specs.Run.{cut}
use Rattle.streams.specs.Machine.{Turns, fed}
use Rattle.streams.specs.Made.{Made}
use Rattle.streams.proofs.Ready.{ready_by}
use Rattle.streams.proofs.Turns.{fed-reached, fed-within, fed_prints}
use Rattle.streams.proofs.Ending.{fed-place, fed_no_more, fed-falls}
use Rattle.console.specs.declared.Filled.{Filled}
use Rattle.console.specs.declared.Output.{Output}
use Rattle.console.specs.Trace.{wrote, FilledFrom}
use Rattle.console.specs.History.{Read, Write, Told}
use Rattle.console.specs.Streams.{Streams}
use Rattle.console.proofs.Traces.{told-nothing, told_read, told_wrote}
use Rattle.console.proofs.Streams.{follows_begins, follows_read, follows_wrote, streams}
use Rattle.flows.specs.Flow.{Program, most_bytes, buffer_bytes, Sound, Flow, held_bytes, starting_flow, Along, Refilled}
use Rattle.flows.specs.Flow.{calls_left, is_over}

-- where no whole field is held there is room to read
pub room_left : (held : ℕ) (buffer B : List ℕ) → held ≤ length buffer → length buffer ≡ buffer_bytes → length (take held buffer) < 65538
    → length B ≡ length (take (length buffer - held) (drop held buffer)) → 0 < length B
room_left held buffer B h e l k =
    omega (arith, length-take-le held buffer h, length-take (length buffer - held) (drop held buffer), length-drop held buffer)

module _ {P : Type 0} {g : Program P} (sound : Sound g) where
  -- ---- the start
  pub along-begins : (buffer : List ℕ) → Along g (starting_flow g) buffer
  along-begins buffer = record {
    reached = sound.lawful.begins;
    placed = sound.placed;
    within = omega arith;
    reads = [];
    writes = [];
    told = told-nothing;
    stopped = λ e. absurd (true≢false (sym e));
    prints = follows_begins sound.all;
  }

  -- ---- reading on
  pub no_read : (f : Flow P) (buffer : List ℕ) → Along g f buffer → {b : Bool} → b ≡ not (cut (held_bytes f buffer)) → f.ended || b ≡ true
      → Refilled g f f buffer
  no_read f buffer a e h = record {
    along = a;
    progress = refl;
    failed = refl;
    no_less = omega arith;
    more = λ _ n. absurd (true≢false (sym h ∙ ap (f.ended ||◌) e ∙ n));
  }

  -- B was filled after what is held, and X follows it
  module _ (f : Flow P) (buffer B X : List ℕ) (a : Along g f buffer) (on : f.ended ≡ false)
      (going : g.machine.done f.progress ≡ false) (good : f.unread ≡ false) (brief : cut (held_bytes f buffer) ≡ true) (r : Filled)
      (filled : FilledFrom f.input B r) (some : 0 < length B) where
    abbrev bytes : List ℕ
    bytes = take r.count B

    abbrev this : Read
    this = record { asked = length B; bytes = bytes; failed = r.failed }

    abbrev next : Flow P
    next = record {
      progress = f.progress;
      held = f.held + r.count;
      ended = eqb r.count 0 && not r.failed;
      unread = r.failed;
      failed = f.failed;
      input = r.input;
      output = f.output;
    }

    abbrev after : List ℕ
    after = take f.held buffer ++ (B ++ X)

    rest_more : held_bytes next after ≡ held_bytes f buffer ++ bytes
    rest_more =
        let H = take f.held buffer in
        let n = length-take-le f.held buffer a.within in
        ap (λ k. take (k + r.count) (H ++ (B ++ X))) (sym n) ∙ take-append-add H (B ++ X) r.count
        ∙ ap (H ++◌) (take-append-le r.count B X filled.within)

    -- where the read failed, nothing more is held
    none_came : r.failed ≡ true → held_bytes next after ≡ held_bytes f buffer
    none_came e =
        rest_more ∙ ap (λ n. held_bytes f buffer ++ take n B) (filled.none e) ∙ append-nil (held_bytes f buffer)

    left-more : (more : List ℕ)
        → g.remaining f.progress (held_bytes f buffer ++ (bytes ++ more)) ≡ g.remaining f.progress (held_bytes next after ++ more)
    left-more more =
        ap (g.remaining f.progress) (sym (append_assoc (held_bytes f buffer) bytes more) ∙ ap (◌++ more) (sym rest_more))

    pub one_read : Refilled g f next after
    one_read = record {
      along = record {
        reached = a.reached;
        placed = a.placed;
        within = omega (
          arith,
          length-take-le f.held buffer a.within,
          length-append (take f.held buffer) (B ++ X),
          length-append B X,
          filled.within,
        );
        reads = a.reads ++ (this ∷ []);
        writes = a.writes;
        told = told_read a.told good B r filled some;
        stopped = λ e. record {
          brief = ap cut (none_came e) ∙ brief;
          going = going;
          more = ap (λ b. eqb r.count 0 && not b) e ∙ and-false (eqb r.count 0);
        };
        prints = follows_read a.prints _ on this left-more;
      };
      progress = refl;
      failed = refl;
      no_less = omega arith;
      more = λ came n. omega (arith, eqb-false r.count 0 (some_came (eqb r.count 0) r.failed (or_left next.ended _ n) came));
    }
      where
        some_came : (x y : Bool) → x && not y ≡ false → y ≡ false → x ≡ false
        some_came true true e g = absurd (true≢false g)
        some_came true false e g = e
        some_came false y e g = refl

  -- ---- a failed read
  -- turns that can follow while no read has failed
  abbrev ahead : P → ℕ → ℕ
  ahead p held = g.turns_left p + (most_bytes - (g.place p + held))

  calls-left : (f : Flow P) → f.unread ≡ false → calls_left g f ≡ suc (ahead f.progress f.held)
  calls-left f e = rw e

  -- the one that fails is the last turn
  pub turn_stopped : (f r : Flow P) (buffer : List ℕ) → Refilled g f r buffer → f.unread ≡ false → r.unread ≡ true
      → Along g r buffer × (calls_left g r < calls_left g f)
  turn_stopped f r buffer refilled good bad = (
    refilled.along,
    subst (λ n. calls_left g r < n) (sym (calls-left f good))
        (subst (λ b. cond b 0 (suc (ahead r.progress r.held)) < suc (ahead f.progress f.held)) (sym bad) (omega arith)),
  )

  -- ---- taking fields and writing their lines: from `held` the machine came to `next`, used so many bytes, and wrote the slice up to `end`
  module _ (f held : Flow P) (buffer : List ℕ) (a : Along g held buffer) (room : ℕ) {out out' : List ℕ} (next : P) (used end : ℕ)
      (d : Made room (fed g.machine held.ended room held.progress (held_bytes held buffer)) out out' 0 next used end)
      (placed : g.Placed next) where
    abbrev t : Turns P
    t = fed g.machine held.ended room held.progress (held_bytes held buffer)

    pub used-within : used ≤ held.held
    used-within =
        omega (
          arith,
          d.used,
          fed-within sound.lawful held.ended room held.progress (held_bytes held buffer) a.reached,
          length-take held.held buffer,
        )

    -- what is handed over is their text
    pub text-written : take end out' ≡ t.text
    text-written = d.text.text

    -- and it has room
    pub written-within : end ≤ room
    written-within = omega (arith, d.text.ends, d.text.short)

    module _ (o : Output) (whole : Bool) (sent : o ≡ wrote held.output (take end out') whole) (after : List ℕ)
        (moved : take (held.held - used) after ≡ drop used (held_bytes held buffer)) (same : length after ≡ length buffer)
        (came : held.unread ≡ false) (went : held.failed ≡ false) where
      abbrev then : Flow P
      then = record {
        progress = next;
        held = held.held - used;
        ended = held.ended;
        unread = held.unread;
        failed = not whole;
        input = held.input;
        output = o;
      }

      abbrev now_written : Write
      now_written = record { bytes = t.text; whole = whole }

      left_then : (more : List ℕ) → (held.ended ≡ true → more ≡ [])
          → g.remaining held.progress (held_bytes held buffer ++ more) ≡ t.text ++ g.remaining next (held_bytes then after ++ more)
      left_then more last =
          fed_prints sound.lawful held.ended room held.progress (held_bytes held buffer) a.reached more last
          ∙ ap (t.text ++◌)
          (ap₂ (λ p l. g.remaining p (l ++ more)) (sym d.progress)
          (ap (λ n. drop n (held_bytes held buffer)) (sym d.used) ∙ sym moved))

      turn_along : Along g then after
      turn_along = record {
        reached = subst g.Reached (sym d.progress)
            (fed-reached sound.lawful held.ended room held.progress (held_bytes held buffer) a.reached);
        placed = placed;
        within = omega (arith, a.within);
        reads = a.reads;
        writes = a.writes ++ (now_written ∷ []);
        told = subst (λ b. Told held.input o held.ended b (not whole) a.reads (a.writes ++ (now_written ∷ []))) (sym came)
            (told_wrote a.told came went t.text whole (sent ∙ ap (λ y. wrote held.output y whole) text-written));
        stopped = λ e. absurd (true≢false (sym e ∙ came));
        prints = follows_wrote a.prints _ now_written left_then;
      }

      -- fewer turns can follow
      module _ (refilled : Refilled g f held buffer) (on : g.machine.done f.progress ≡ false) (large : g.machine.longest ≤ room)
          (short : length buffer ≤ buffer_bytes) (good : f.unread ≡ false) where
        abbrev p : P
        p = held.progress

        still : g.machine.done p ≡ false
        still = ap g.machine.done refilled.progress ∙ on

        turns_no_more : g.turns_left next ≤ g.turns_left p
        turns_no_more =
            subst (λ q. g.turns_left q ≤ g.turns_left p) (sym d.progress)
            (fed_no_more sound.lawful sound.ending held.ended room p (held_bytes held buffer) a.reached)

        fewer_turns : held.ended || not (cut (held_bytes held buffer)) ≡ true → g.turns_left next < g.turns_left p
        fewer_turns e =
            let can = ready_by g.machine.longest (g.machine.done p) held.ended room (held_bytes held buffer) still large in
            subst (λ q. g.turns_left q < g.turns_left p) (sym d.progress)
            (fed-falls sound.lawful sound.ending held.ended room p (held_bytes held buffer) a.reached (can ∙ e))

        next_place : g.place next ≡ g.place p + used
        next_place =
            ap g.place d.progress
            ∙ fed-place sound.lawful sound.ending held.ended room p (held_bytes held buffer) a.reached
            ∙ ap (g.place p +◌) (sym d.used)

        place-below : g.place p + held.held < most_bytes
        place-below = omega (arith, sound.low p a.reached a.placed still, a.within)

        from-here : ahead next (held.held - used) < ahead p f.held
        from-here = go (held.ended || not (cut (held_bytes held buffer))) refl
          where
            go : (b : Bool) → held.ended || not (cut (held_bytes held buffer)) ≡ b → ahead next (held.held - used) < ahead p f.held
            go true e = omega (arith, fewer_turns e, next_place, used-within, refilled.no_less)
            go false e = omega (arith, turns_no_more, next_place, used-within, refilled.more came e, place-below)

        turn_falls : calls_left g then < calls_left g f
        turn_falls =
            subst (λ n. calls_left g then < n) (sym (calls-left f good))
            (subst (λ n. n < suc (ahead f.progress f.held)) (sym (calls-left then came))
            (omega (arith, subst (λ q. ahead next (held.held - used) < ahead q f.held) refilled.progress from-here)))

        pub turn_done : Along g then after × (calls_left g then < calls_left g f)
        turn_done = (turn_along, turn_falls)

  -- ---- the end: nothing is left to be printed where no read and no write failed
  pub flow_streams : (f : Flow P) (buffer : List ℕ) (a : Along g f buffer) → is_over g f ≡ true → {Whole : Type 0}
      → (Whole → (f.unread ≡ false) × (f.failed ≡ false))
      → Streams g.printed f.input f.output f.ended f.unread f.failed Whole a.reads a.writes
  flow_streams f buffer a over both =
      streams a.told a.prints (λ whole more last.
      sound.lawful.silent f.progress (held_bytes f buffer ++ more)
      (third f.failed f.unread _ over (both whole).1 (both whole).0))
    where
      third : (x y z : Bool) → (x || y) || z ≡ true → x ≡ false → y ≡ false → z ≡ true
      third true y z h e g = absurd (true≢false e)
      third false true z h e g = absurd (true≢false g)
      third false false z h e g = h

-- ---- while it isn't over
module _ (failed unread done : Bool) (e : (failed || unread) || done ≡ false) where
  pub not_done : done ≡ false
  not_done = or_right (failed || unread) done e

  pub not_failed : failed ≡ false
  not_failed = or_left failed unread (or_left (failed || unread) done e)

  pub not_unread : unread ≡ false
  not_unread = or_right failed unread (or_left (failed || unread) done e)
