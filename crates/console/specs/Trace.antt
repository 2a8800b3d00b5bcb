-- The histories of reading and writing. The definitions are shut: another crate's proof can't look into them, so that it holds for whatever
-- a token may stand for, the list of all bytes included. `Law` opens them for the proofs of this crate; no other file names `Law`.
pub mod Law
use Rattle.std.specs.Prelude.{◌≡◌, ℕ, ◌+◌, ◌%◌, ◌^◌, ◌≤◌, min, Bool, true, List, length, take, Result, Ok, Err, is_err}
use Rattle.std.specs.declared.io.Stdin.{Stdin}
use Rattle.std.specs.declared.io.Stdout.{Stdout}
use Rattle.console.specs.declared.Source.{Source}
use Rattle.console.specs.declared.Source.TheVariants.{Standard}
use Rattle.console.specs.declared.Input.{Input}
use Rattle.console.specs.declared.Output.{Output}
use Rattle.console.specs.declared.Filled.{Filled}

-- the handles of standard input and output
stdin : Stdin
stdin = record { seal = tt }

stdout : Stdout
stdout = record { seal = tt }

-- nothing was read of standard input
pub without_input : Input
without_input = record { argument = 0; source = Standard stdin; seen = 0 }

-- nothing was read of the file that the argument of this number names, which comes from there
pub none_of : ℕ → Source → Input
none_of argument source = record { argument = argument; source = source; seen = 0 }

-- the same, wherever it comes from
pub record OfFile (argument : ℕ) (i : Input) : Type 0 where
  pub source : Source
  pub begins : i ≡ none_of argument source

-- after what i stands for, at most so many bytes were asked for, these were read, and whether the read failed
pub took : Input → ℕ → List ℕ → Bool → Input
took i asked bytes failed =
    record { argument = i.argument; source = i.source; seen = (i.seen + length bytes) % 2 ^ 64 }

-- nothing was written
pub without_output : Output
without_output = record { to = stdout; sent = 0 }

-- after what o stands for, these bytes were handed over, and whether all of them went through
pub wrote : Output → List ℕ → Bool → Output
wrote o bytes whole = record { to = o.to; sent = (o.sent + length bytes) % 2 ^ 64 }

-- what a read leaves: as many bytes as the buffer has were asked for, and those at its start read; one that failed brought none
pub record FilledFrom (i : Input) (buffer : List ℕ) (r : Filled) : Type 0 where
  pub within : r.count ≤ length buffer
  pub none : r.failed ≡ true → r.count ≡ 0
  pub next : r.input ≡ took i (length buffer) (take r.count buffer) r.failed

-- how many bytes came, where the system answered so to a read of at most `room` bytes: none where it failed, and never more than there is
-- room for
abbrev pub came : {E : Type 0} → Result ℕ E → ℕ → ℕ
came (Ok n) room = min n room
came (Err e) room = 0

-- what was read where the system answered so: it failed where the answer is an error
pub record Answered {E : Type 0} (answer : Result ℕ E) (buffer : List ℕ) (r : Filled) : Type 0 where
  pub failed : r.failed ≡ is_err answer
  pub count : r.count ≡ came answer (length buffer)
