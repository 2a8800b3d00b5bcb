-- What a contract says of work space: slices that a function is lent to work in.
use Rattle.std.specs.Prelude.{List, ◌≡◌, ℕ, length, drop}
use Rattle.std.proofs.Common.{arith, length-drop}

-- left open: nothing is promised of what a slice, or a part of it, holds afterwards; it is only as long as it was before
abbrev pub LeftOpen : {A : Type 0} → List A → List A → Type 0
LeftOpen before after = length after ≡ length before

-- a part of a slice, from place k on
pub open_from : {A : Type 0} (k : ℕ) (before after : List A) → LeftOpen before after → LeftOpen (drop k before) (drop k after)
open_from k before after h = omega (arith, length-drop k before, length-drop k after)
