-- What a program has done that gives, for every input, the output that a function says.
use Rattle.std.specs.Prelude.{◌≡◌, ℕ, Bool, true, List, [], ◌++◌}
use Rattle.console.specs.declared.Input.{Input}
use Rattle.console.specs.declared.Output.{Output}
use Rattle.console.specs.History.{Read, bytes_of, Write, handed_over, Told}

-- Along the way: what was written, and `left` of what is still to come of the input, are what `of` says of all of it; nothing comes after
-- the end.
pub record Follows (of left : List ℕ → List ℕ) (ended : Bool) (reads : List Read) (writes : List Write) : Type 0 where
  pub says : (more : List ℕ) → (ended ≡ true → more ≡ []) → of (bytes_of reads ++ more) ≡ handed_over writes ++ left more

-- The program is over, by these reads and these writes. `Whole` is where it came to its end, and nothing stopped it before.
pub record Streams (of : List ℕ → List ℕ) (input : Input) (output : Output) (ended unread failed : Bool) (Whole : Type 0)
    (reads : List Read) (writes : List Write) : Type 0 where
  -- they were made, and what it says of them
  pub told : Told input output ended unread failed reads writes
  -- There what was written is what `of` says of what was read, whatever may follow that; nothing does after the end.
  pub all : Whole → (more : List ℕ) → (ended ≡ true → more ≡ []) → handed_over writes ≡ of (bytes_of reads ++ more)
  -- However the program ended, it is how that begins.
  pub begins : (more : List ℕ) → (ended ≡ true → more ≡ []) → (later : List ℕ) × (of (bytes_of reads ++ more) ≡ handed_over writes ++ later)
