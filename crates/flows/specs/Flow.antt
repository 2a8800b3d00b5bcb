-- A program that reads its input into a buffer, has a machine take the fields that are whole, and writes their text.
use Rattle.std.specs.Prelude.{◌≡◌, List, ◌++◌, Bool, true, false, not, cond, ◌||◌, ℕ, suc, ◌+◌, ◌-◌, ◌≤◌, ◌<◌, length, take}
use Rattle.model.specs.Run.{cut}
use Rattle.streams.specs.Machine.{Machine}
use Rattle.streams.specs.Laws.{Lawful, Ending}
use Rattle.console.specs.declared.Input.{Input}
use Rattle.console.specs.declared.Output.{Output}
use Rattle.console.specs.Trace.{without_input, without_output}
use Rattle.console.specs.History.{Read, Write, Told}
use Rattle.console.specs.Streams.{Follows}

-- ---- the program
pub record Program (P : Type 0) : Type 1 where
  -- what takes the fields
  pub machine : Machine P
  -- how far calls can lead, and that the next field then stands where it can
  pub Reached : P → Type 0
  pub Placed : P → Type 0
  -- what is still to be printed where this much of the input is left
  pub remaining : P → List ℕ → List ℕ
  -- what is printed for an input
  pub printed : List ℕ → List ℕ
  -- how many turns of the machine can follow at most, and where in the input the next field stands
  pub turns_left : P → ℕ
  pub place : P → ℕ

-- the length of the buffer
abbrev pub buffer_bytes : ℕ
buffer_bytes = 131072

-- more than the fields of a run and a buffer have: 4,097 fields of at most 65,538 bytes
abbrev pub most_bytes : ℕ
most_bytes = 270000000

-- what is asked of it
pub record Sound {P : Type 0} (g : Program P) : Type 0 where
  pub lawful : Lawful g.machine g.Reached g.remaining
  pub ending : Ending g.machine g.Reached g.turns_left g.place
  pub all : (input : List ℕ) → g.remaining g.machine.starting input ≡ g.printed input
  pub placed : g.Placed g.machine.starting
  pub low : (p : P) → g.Reached p → g.Placed p → g.machine.done p ≡ false → g.place p + buffer_bytes < most_bytes

-- ---- how far it has come
-- the machine; how many bytes at the start of the buffer aren't used yet; whether the input has ended, a read failed, or a write failed;
-- what was read and written
pub record Flow (P : Type 0) : Type 0 where
  pub progress : P
  pub held : ℕ
  pub ended : Bool
  pub unread : Bool
  pub failed : Bool
  pub input : Input
  pub output : Output

-- the bytes that are not used yet
abbrev pub held_bytes : {P : Type 0} → Flow P → List ℕ → List ℕ
held_bytes f buffer = take f.held buffer

module _ {P : Type 0} (g : Program P) where
  -- before the first turn
  abbrev pub starting_flow : Flow P
  starting_flow = record {
    progress = g.machine.starting;
    held = 0;
    ended = false;
    unread = false;
    failed = false;
    input = without_input;
    output = without_output;
  }

  -- where a read failed: no whole field is held, and the last line isn't given
  pub record Stopped (f : Flow P) (buffer : List ℕ) : Type 0 where
    pub brief : cut (held_bytes f buffer) ≡ true
    pub going : g.machine.done f.progress ≡ false
    pub more : f.ended ≡ false

  -- after some turns
  pub record Along (f : Flow P) (buffer : List ℕ) : Type 0 where
    pub reached : g.Reached f.progress
    pub placed : g.Placed f.progress
    pub within : f.held ≤ length buffer
    pub reads : List Read
    pub writes : List Write
    pub told : Told f.input f.output f.ended f.unread f.failed reads writes
    pub stopped : f.unread ≡ true → Stopped f buffer
    -- what was written, and what is still to be printed
    pub prints : Follows g.printed (λ more. g.remaining f.progress (held_bytes f buffer ++ more)) f.ended reads writes

  -- after reading on: the machine stays as it is, and where it can't go on yet a byte more is there, unless the read failed
  pub record Refilled (f r : Flow P) (after : List ℕ) : Type 0 where
    pub along : Along r after
    pub progress : r.progress ≡ f.progress
    pub failed : r.failed ≡ f.failed
    pub no_less : f.held ≤ r.held
    pub more : r.unread ≡ false → r.ended || not (cut (held_bytes r after)) ≡ false → f.held < r.held

  -- how many turns of the program can follow at most: those of the machine, those that read a byte more, and one that fails to
  abbrev pub calls_left : Flow P → ℕ
  calls_left f = cond f.unread 0 (suc (g.turns_left f.progress + (most_bytes - (g.place f.progress + f.held))))

  -- whether it is over
  abbrev pub is_over : Flow P → Bool
  is_over f = (f.failed || f.unread) || g.machine.done f.progress
