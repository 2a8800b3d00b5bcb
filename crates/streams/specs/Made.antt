-- What a function that makes turns answers and leaves in the lent slice.
use Rattle.std.specs.Prelude.{◌≡◌, List, ℕ}
use Rattle.text.specs.Appended.{Appended}
use Rattle.streams.specs.Machine.{Turns}

-- It answers how far the turns lead and how many bytes they use; and their text, of at most `most` bytes, stands in the slice from `at` up to
-- `end`, and all else is as it was.
pub record Made {P : Type 0} (most : ℕ) (t : Turns P) (before after : List ℕ) (at : ℕ) (next : P) (bytes end : ℕ) : Type 0 where
  pub progress : next ≡ t.progress
  pub used : bytes ≡ t.used
  pub text : Appended most before after at end t.text
