-- What the program read and wrote, by its calls of `console`.
use Rattle.std.specs.Prelude.{◌≡◌, List, ◌++◌, true, false, ℕ}
use Rattle.model.specs.Text.{refusal_line, folded_line, end_line, printed}
use Rattle.console.specs.History.{Read, bytes_of, Write, handed_over}
use Rattle.console.specs.Streams.{Streams}
use Rattle.motion.specs.declared.Flow.{Flow}

-- the lines that close an output: the totals and the end of a run, or a refusal
pub data Closes : List ℕ → Type 0 where
  ended : (totals : List ℕ) (field : ℕ) → Closes (folded_line totals ++ end_line field)
  refused : (field number place : ℕ) → Closes (refusal_line field number place)

-- the output is what is printed for the input but for the lines that close it
pub record Unclosed (input output : List ℕ) : Type 0 where
  pub last : List ℕ
  pub closes : Closes last
  pub all_but : printed input ≡ output ++ last

-- The program is over.
pub record Streamed (f : Flow) : Type 0 where
  pub reads : List Read
  pub writes : List Write
  -- Where no read and no write failed, what was written is what is printed for what was read; else how that begins.
  pub streams : Streams printed f.input f.output f.ended f.unread f.failed ((f.unread ≡ false) × (f.failed ≡ false))
      reads writes
  -- Where a read failed, it is that without an end or a refusal.
  pub unclosed : f.unread ≡ true → Unclosed (bytes_of reads) (handed_over writes)
