-- What the program read and wrote, by its calls of `console`.
use Rattle.std.specs.Prelude.{◌≡◌, List, true, false, ℕ, length}
use Rattle.model.specs.Rewrite.{rewritten}
use Rattle.console.specs.History.{Read, Write}
use Rattle.console.specs.Streams.{Streams}
use Rattle.rewrite.specs.declared.Flow.{Flow}

-- how many reads are made at most
abbrev pub most_reads : ℕ
most_reads = 18446744073709551615

-- The program is over.
pub record Streamed (f : Flow) : Type 0 where
  pub reads : List Read
  pub writes : List Write
  -- Where the input has ended and no write failed, what was written is what is left of what was read; else how that begins.
  pub streams : Streams rewritten f.input f.output f.ended f.unread f.failed ((f.ended ≡ true) × (f.failed ≡ false))
      reads writes
  -- it stops at the end, or where a read or a write failed, else only after the most reads
  pub over : f.ended ≡ false → f.unread ≡ false → f.failed ≡ false → length reads ≡ most_reads
