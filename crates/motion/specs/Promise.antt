-- The program's promise, from the bytes that it read to the bytes that it wrote. What is promised of an input and an output is `Promised`
-- (crates/model/specs/Promised.antt); the theorem is `promise`, in proofs/Promise.antt.
use Rattle.std.specs.Prelude.{◌≡◌, List, [], ◌++◌, true, false, ℕ}
use Rattle.model.specs.Promised.{Promised, Begun}
use Rattle.console.specs.History.{Read, bytes_of, Write, handed_over, Told}
use Rattle.motion.specs.declared.Flow.{Flow}
use Rattle.motion.specs.Streamed.{Unclosed}

-- The program is over.
pub record Promise (f : Flow) : Type 0 where
  pub reads : List Read
  pub writes : List Write
  -- these reads and these writes were made, and what it says of them
  pub told : Told f.input f.output f.ended f.unread f.failed reads writes
  -- Where neither failed, what was written is true of every motion that the input allows, whatever may follow what was read of it; nothing
  -- does after the end.
  pub kept : f.unread ≡ false → f.failed ≡ false → (more : List ℕ) → (f.ended ≡ true → more ≡ [])
      → Promised (bytes_of reads ++ more) (handed_over writes)
  -- Where a read failed, it lacks the lines that close an output.
  pub unclosed : f.unread ≡ true → Unclosed (bytes_of reads) (handed_over writes)
  -- However the program ended, and at any time before, each whole line that went through is true.
  pub so_far : (more : List ℕ) → (f.ended ≡ true → more ≡ []) → (through later : List ℕ) → handed_over writes ≡ through ++ later
      → Begun (bytes_of reads ++ more) through
