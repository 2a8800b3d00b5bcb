-- A turn of the program keeps what it knows.
use mathlib.Core.Path.{◌≡◌, refl, sym, ap, ap₂, ◌∙◌, subst}
use mathlib.Core.Bool.{Bool, true, false, not, cond, ◌&&◌, ◌||◌, true≢false, and-true, and-false}
use mathlib.Core.List.{List, [], ◌∷◌, ◌++◌, append-nil}
use Prim.Native.Nat.{ℕ, ◌+◌, ◌-◌, ◌<◌}
use native.Mathlib.Omega.{arith}
use borrow.Author.Tests.{eqb-true, eqb-false, eq-eqb, ne_eqb}
use lib.Dec.{eqb}
use lib.ListN.{length, take, length-append}
use lib.Seq.{length-take-le}
use Rattle.whole.specs.Tests.{or_left, or_right}
use Rattle.model.specs.Rewrite.{rewritten}
use Rattle.text.specs.Appended.{Appended, named}
use Rattle.console.specs.declared.Input.{Input}
use Rattle.console.specs.declared.Filled.{Filled}
use Rattle.console.specs.declared.Output.{Output}
use Rattle.console.specs.Trace.{without_input, without_output, wrote, FilledFrom}
use Rattle.console.specs.History.{Read, Write, Told}
use Rattle.console.specs.Streams.{Follows}
use Rattle.console.proofs.Traces.{told-nothing, told_read, told_wrote}
use Rattle.console.proofs.Streams.{follows_begins, follows_read, follows_wrote, streams}
use Rattle.rewriting.specs.declared.Held.{Held}
use Rattle.rewriting.specs.declared.Given.{Given}
use Rattle.rewriting.specs.Given as Rewriting
use Rattle.rewriting.specs.Given.{held_bytes, Handed, many_bytes}
use Rattle.rewriting.specs.Reached.{Reached, remaining}
use Rattle.rewriting.specs.Done.{Done}
use Rattle.rewriting.proofs.OneByte.{held-last, held_below}
use Rattle.rewriting.proofs.ManyBytes.{many-kept}
use Rattle.rewriting.proofs.Pieces.{starting-reached, starting_remains}
use Rattle.rewrite.specs.declared.Flow.{Flow}
use Rattle.rewrite.specs.Streamed.{most_reads, Streamed}
use Rattle.rewrite.specs.Along.{starting_flow, passed, still_left, Along, TurnMade}

-- ---- the start
pub flow-begun : {h : Held} {i : Input} {o : Output} → h ≡ Rewriting.starting → i ≡ without_input → o ≡ without_output
    → record { held = h; allowed = most_reads; ended = false; unread = false; failed = false; input = i; output = o } ≡ starting_flow
flow-begun e g h = ap₃ e g h
  where
    ap₃ : {h k : Held} {i j : Input} {o u : Output} → h ≡ k → i ≡ j → o ≡ u
        → ◌≡◌ {A = Flow} (record { held = h; allowed = most_reads; ended = false; unread = false; failed = false; input = i; output = o })
        (record { held = k; allowed = most_reads; ended = false; unread = false; failed = false; input = j; output = u })
    ap₃ e g h = rw (e, g, h)

along-begins : Along starting_flow
along-begins = record {
  reached = starting-reached;
  reads = [];
  writes = [];
  made = refl;
  told = told-nothing;
  rewrites = follows_begins starting_remains;
}

-- ---- what comes of a read
module _ (h : Held) (came : List ℕ) where
  at_end : length came ≡ 0 → passed h came ≡ record { held = h; text = held_bytes h }
  unfolding passed
  at_end e = ap (λ x. cond x (record { held = h; text = held_bytes h }) (many_bytes h came)) (eq-eqb (length came) 0 e)

  on_the_way : (length came ≡ 0 → ⊥) → passed h came ≡ many_bytes h came
  unfolding passed
  on_the_way e = ap (λ x. cond x (record { held = h; text = held_bytes h }) (many_bytes h came)) (ne_eqb (length came) 0 e)

  pub pass_end : {before after : List ℕ} {w : ℕ} → length came ≡ 0 → Appended 28 before after 0 w (held_bytes h)
      → Done (length came + 28) (passed h came) before after 0 (record { held = h; written = w })
  pass_end e a = record {
    held = sym (ap (λ (s : Handed). s.held) (at_end e));
    text = named (omega arith) (sym (ap (λ (s : Handed). s.text) (at_end e))) a;
  }

  pub pass-more : {before after : List ℕ} {g : Given} → Reached h → (length came ≡ 0 → ⊥)
      → Done (h.count + length came) (many_bytes h came) before after 0 g → Done (length came + 28) (passed h came) before after 0 g
  pass-more r e d = record {
    held = d.held ∙ sym (ap (λ (s : Handed). s.held) (on_the_way e));
    text = named (omega (arith, held_below h r)) (sym (ap (λ (s : Handed). s.text) (on_the_way e))) d.text;
  }

  module _ (r : Reached h) where
    passed-reached : Reached (passed h came).held
    unfolding passed
    passed-reached = go (eqb (length came) 0)
      where
        go : (x : Bool) → Reached (cond x (record { held = h; text = held_bytes h }) (many_bytes h came)).held
        go true = r
        go false = (many-kept h came r).reached

    passed_remains : (more : List ℕ) → (eqb (length came) 0 ≡ true → more ≡ [])
        → remaining h (came ++ more) ≡ (passed h came).text ++ cond (eqb (length came) 0) [] (remaining (passed h came).held more)
    unfolding passed
    passed_remains more last = go (eqb (length came) 0) refl
      where
        none : (l : List ℕ) → length l ≡ 0 → l ≡ []
        none [] e = refl
        none (x ∷ l) e = absurd (omega arith)

        go : (x : Bool) → eqb (length came) 0 ≡ x → (let s = cond x (record { held = h; text = held_bytes h }) (many_bytes h came) in
            remaining h (came ++ more) ≡ s.text ++ cond x [] (remaining s.held more))
        go true e =
            ap₂ (λ x y. remaining h (x ++ y)) (none came (eqb-true (length came) 0 e)) (last e)
            ∙ held-last h r ∙ sym (append-nil (held_bytes h))
        go false e = (many-kept h came r).remains more

-- ---- a turn
-- B was filled
module _ (f : Flow) (B : List ℕ) (a : Along f) (on : f.ended ≡ false) (good : f.unread ≡ false) (went : f.failed ≡ false) (r : Filled)
    (filled : FilledFrom f.input B r) (some : 0 < length B) where
  abbrev came : List ℕ
  came = take r.count B

  abbrev this : Read
  this = record { asked = length B; bytes = came; failed = r.failed }

  -- what the program says of its reads, where this comes of it
  now_told : {ended unread failed : Bool} → eqb r.count 0 && not r.failed ≡ ended → r.failed ≡ unread → f.failed ≡ failed
      → Told r.input f.output ended unread failed (a.reads ++ (this ∷ [])) a.writes
  now_told {ended} {unread} e u h =
      subst (λ b. Told r.input f.output ended unread b (a.reads ++ (this ∷ [])) a.writes) h
      (subst (λ b. Told r.input f.output ended b f.failed (a.reads ++ (this ∷ [])) a.writes) u
      (subst (λ b. Told r.input f.output b r.failed f.failed (a.reads ++ (this ∷ [])) a.writes) e
      (told_read a.told good B r filled some)))

  -- what is left of what was read before and now
  read_rewrites : {now : Bool} → Follows rewritten (λ more. remaining f.held (came ++ more)) now (a.reads ++ (this ∷ [])) a.writes
  read_rewrites =
      follows_read a.rewrites _ on this (λ more. ap (λ x. cond x [] (remaining f.held (came ++ more))) on)

  -- and that failed: nothing came
  module _ (bad : r.failed ≡ true) where
    abbrev stopped : Flow
    stopped = record {
      held = f.held;
      allowed = f.allowed - 1;
      ended = f.ended;
      unread = true;
      failed = f.failed;
      input = r.input;
      output = f.output;
    }

    pub turn_stopped : 0 < f.allowed → TurnMade f stopped
    turn_stopped l = record {
      along = record {
        reached = a.reached;
        reads = a.reads ++ (this ∷ []);
        writes = a.writes;
        made = omega (arith, length-append a.reads (this ∷ []), a.made);
        told = now_told (ap (λ b. eqb r.count 0 && not b) bad ∙ and-false (eqb r.count 0) ∙ sym on) bad refl;
        rewrites = follows_read a.rewrites _ on this (λ more. ap (λ n. cond f.ended [] (remaining f.held (take n B ++ more))) (filled.none bad));
      };
      fewer = omega arith;
    }

  -- else what it brought was passed, and the text handed over
  module _ (came-well : r.failed ≡ false) {most : ℕ} {out out' : List ℕ} (g : Given)
      (d : Done most (passed f.held came) out out' 0 g) (o : Output) (whole : Bool)
      (sent : o ≡ wrote f.output (take g.written out') whole) where
    abbrev text : List ℕ
    text = (passed f.held came).text

    abbrev now_written : Write
    now_written = record { bytes = text; whole = whole }

    abbrev next : Flow
    next = record {
      held = g.held;
      allowed = f.allowed - 1;
      ended = eqb r.count 0;
      unread = false;
      failed = not whole;
      input = r.input;
      output = o;
    }

    came_count : length came ≡ r.count
    came_count = length-take-le r.count B filled.within

    left_then : (more : List ℕ) → (eqb r.count 0 ≡ true → more ≡ []) → remaining f.held (came ++ more) ≡ text ++ still_left next more
    left_then more last =
        let same = came_count in
        passed_remains f.held came a.reached more (λ e. last (ap (λ n. eqb n 0) (sym same) ∙ e))
        ∙ ap (text ++◌) (ap₂ (λ n h. cond (eqb n 0) [] (remaining h more)) same (sym d.held))

    pub turn_done : 0 < f.allowed → TurnMade f next
    turn_done l = record {
      along = record {
        reached = subst Reached (sym d.held) (passed-reached f.held came a.reached);
        reads = a.reads ++ (this ∷ []);
        writes = a.writes ++ (now_written ∷ []);
        made = omega (arith, length-append a.reads (this ∷ []), a.made);
        told = told_wrote
            (now_told (ap (λ b. eqb r.count 0 && not b) came-well ∙ and-true (eqb r.count 0)) came-well refl) refl went text whole
            (sent ∙ ap (λ y. wrote f.output y whole) d.text.text);
        rewrites = follows_wrote read_rewrites _ now_written left_then;
      };
      fewer = omega arith;
    }

-- ---- the loop
-- whether the program is over
abbrev pub is_over : Flow → Bool
is_over f = ((f.ended || f.unread) || f.failed) || eqb f.allowed 0

pub starts : {f : Flow} → f ≡ starting_flow → Along f
starts e = subst Along (sym e) along-begins

module _ (f : Flow) (off : is_over f ≡ false) where
  pub not-ended : f.ended ≡ false
  not-ended =
      or_left f.ended f.unread (or_left (f.ended || f.unread) f.failed
      (or_left ((f.ended || f.unread) || f.failed) (eqb f.allowed 0) off))

  pub not_unread : f.unread ≡ false
  not_unread =
      or_right f.ended f.unread (or_left (f.ended || f.unread) f.failed
      (or_left ((f.ended || f.unread) || f.failed) (eqb f.allowed 0) off))

  pub not_failed : f.failed ≡ false
  not_failed =
      or_right (f.ended || f.unread) f.failed (or_left ((f.ended || f.unread) || f.failed) (eqb f.allowed 0) off)

  pub some_allowed : 0 < f.allowed
  some_allowed = omega (arith, eqb-false f.allowed 0 (or_right ((f.ended || f.unread) || f.failed) (eqb f.allowed 0) off))

-- ---- the end
pub streamed : (f : Flow) → Along f → is_over f ≡ true → Streamed f
streamed f a over = record {
  reads = a.reads;
  writes = a.writes;
  streams = streams a.told a.rewrites (λ whole more last. ap (λ x. cond x [] (remaining f.held more)) whole.0);
  over = λ e u g. omega (arith, a.made, used_up e u g);
}
  where
    fourth : (x y z w : Bool) → ((x || y) || z) || w ≡ true → x ≡ false → y ≡ false → z ≡ false → w ≡ true
    fourth true y z w h e g k = absurd (true≢false e)
    fourth false true z w h e g k = absurd (true≢false g)
    fourth false false true w h e g k = absurd (true≢false k)
    fourth false false false w h e g k = h

    used_up : f.ended ≡ false → f.unread ≡ false → f.failed ≡ false → f.allowed ≡ 0
    used_up e u g = eqb-true f.allowed 0 (fourth f.ended f.unread f.failed (eqb f.allowed 0) over e u g)
