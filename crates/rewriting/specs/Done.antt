-- What functions that take bytes answer and leave in the lent slice.
use Rattle.std.specs.Prelude.{◌≡◌, List, ℕ, ◌+◌, ◌≤◌, ◌<◌, length, take}
use Rattle.text.specs.Appended.{Appended}
use Rattle.rewriting.specs.declared.Held.{Held}
use Rattle.rewriting.specs.declared.Given.{Given}
use Rattle.rewriting.specs.declared.Taken.{Taken}
use Rattle.rewriting.specs.Given.{Handed, many_bytes}

-- it answers what the bytes come to, and their text, of at most `most` bytes, stands in the slice from `at` up to where it is written; all
-- else is as it was
pub record Done (most : ℕ) (s : Handed) (before after : List ℕ) (at : ℕ) (r : Given) : Type 0 where
  pub held : r.held ≡ s.held
  pub text : Appended most before after at r.written s.text

-- a turn does that with a byte or more of `rest`
pub record Turned (h : Held) (rest before after : List ℕ) (at : ℕ) (r : Taken) : Type 0 where
  pub some : 0 < r.used
  pub within : r.used ≤ length rest
  pub done : Done (h.count + r.used) (many_bytes h (take r.used rest)) before after at
      (record { held = r.held; written = r.written })
