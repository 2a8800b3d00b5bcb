-- The program is one that takes field after field; how it starts and ends.
use mathlib.Core.Path.{◌≡◌, refl, sym, ap, ap₂, ◌∙◌, subst}
use mathlib.Core.Bool.{Bool, true, false, cond}
use mathlib.Core.List.{List, [], ◌++◌, append-nil}
use Prim.Native.Nat.{ℕ, ◌+◌, ◌<◌}
use native.Mathlib.Omega.{arith}
use Rattle.model.specs.Text.{printed}
use Rattle.model.specs.Rest.{printed_from}
use Rattle.states.specs.State.{viewed}
use Rattle.console.specs.declared.Input.{Input}
use Rattle.console.specs.declared.Output.{Output}
use Rattle.console.specs.Trace.{without_input, without_output}
use Rattle.console.specs.History.{Read, bytes_of, Write, handed_over}
use Rattle.flows.specs.Flow as Flowing
use Rattle.flows.specs.Flow.{most_bytes, buffer_bytes, Sound, held_bytes, Stopped}
use Rattle.flows.proofs.Flowing.{along-begins, flow_streams}
use Rattle.feeding.specs.declared.Progress.{Progress}
use Rattle.feeding.specs.Fed as Feeding
use Rattle.feeding.specs.Reached.{Reached, Placed, remaining}
use Rattle.feeding.proofs.OneTurn.{lawful, ending, starting_prints}
use Rattle.motion.specs.declared.Flow.{Flow}
use Rattle.motion.specs.Streamed.{Unclosed, Streamed}
use Rattle.motion.specs.Along.{program, flow, starting_flow, Along}
use Rattle.motion.proofs.Closed.{cut_closes}

-- 4,097 fields of at most 65,538 bytes each
places-low : (p : Progress) → Reached p → Placed p → p.done ≡ false → p.place + buffer_bytes < most_bytes
unfolding viewed
places-low p r placed on = omega (arith, placed on, r.sound.count_in)

pub sound : Sound program
sound = record { lawful = lawful; ending = ending; all = starting_prints; placed = λ e. omega arith; low = places-low }

-- ---- the start
pub flow-begun : {p : Progress} {i : Input} {o : Output} → p ≡ Feeding.starting → i ≡ without_input → o ≡ without_output
    → record { progress = p; held = 0; ended = false; unread = false; failed = false; input = i; output = o } ≡ starting_flow
flow-begun e g h = ap₃ e g h
  where
    ap₃ : {p q : Progress} {i j : Input} {o u : Output} → p ≡ q → i ≡ j → o ≡ u
        → ◌≡◌ {A = Flow} (record { progress = p; held = 0; ended = false; unread = false; failed = false; input = i; output = o })
        (record { progress = q; held = 0; ended = false; unread = false; failed = false; input = j; output = u })
    ap₃ e g h = rw (e, g, h)

-- whether the program is over
abbrev pub is_over : Flow → Bool
is_over f = Flowing.is_over program (flow f)

pub starts : {f : Flow} (buffer : List ℕ) → f ≡ starting_flow → Along f buffer
starts buffer e = subst (λ (f : Flow). Along f buffer) (sym e) (along-begins sound buffer)

-- ---- the end
-- what would close the output where a read failed
left_open : (f : Flow) (buffer : List ℕ) → Along f buffer → (reads : List Read) (writes : List Write)
    → printed (bytes_of reads ++ []) ≡ handed_over writes ++ remaining f.progress (held_bytes (flow f) buffer ++ [])
    → Stopped program (flow f) buffer → Unclosed (bytes_of reads) (handed_over writes)
unfolding viewed
left_open f buffer a reads writes e s =
    let H = held_bytes (flow f) buffer in
    record {
      last = printed_from f.progress.place (viewed f.progress.state) H;
      closes = cut_closes f.progress.place (viewed f.progress.state) H (a.reached.going s.going) s.brief;
      all_but =
          ap printed (sym (append-nil (bytes_of reads))) ∙ e
          ∙ ap₂ (λ b l. handed_over writes ++ cond b [] (printed_from f.progress.place (viewed f.progress.state) l)) s.going
          (append-nil H);
    }

pub streamed : (f : Flow) (buffer : List ℕ) → Along f buffer → is_over f ≡ true → Streamed f
streamed f buffer a over = record {
  reads = a.reads;
  writes = a.writes;
  streams = flow_streams sound (flow f) buffer a over (λ whole. whole);
  unclosed = λ e. left_open f buffer a a.reads a.writes (a.prints.says [] (λ _. refl)) (a.stopped e);
}
