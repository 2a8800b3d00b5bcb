-- The first field of what was read: whether it is whole, and its tag.
use mathlib.Core.Path.{◌≡◌, sym, ap, ◌∙◌}
use mathlib.Core.Bool.{not, ◌||◌}
use mathlib.Core.List.{List}
use Prim.Native.Nat.{ℕ, ◌<◌}
use native.Mathlib.Decide.{dec_lt}
use native.Mathlib.Omega.{arith}
use borrow.Author.Tests.{lt-ltb, le-ltb}
use lib.Dec.{ltb}
use lib.ListN.{length}
use Rattle.model.specs.Run.{tag, cut, field_length, first_field}
use Rattle.states.specs.FirstField.{first-tag, first-cut}

module _ (rest : List ℕ) where
  -- it is cut off where what was read is
  pub cut-first : not (cut (first_field rest)) ≡ not (cut rest)
  unfolding cut
  cut-first = ap not (first-cut rest ∙ go (dec_lt (length rest) 3))
    where
      go : Dec (length rest < 3) → ltb (length rest) (field_length rest) ≡ ltb (length rest) 3 || ltb (length rest) (field_length rest)
      go (yes h) = rw (lt-ltb (length rest) 3 h) (lt-ltb (length rest) (field_length rest) (omega arith))
      go (no h) = rw (le-ltb (length rest) 3 (omega arith))

  -- its tag
  pub tag-first : {t : ℕ} → t ≡ tag rest → t ≡ tag (first_field rest)
  tag-first e = e ∙ sym (first-tag rest)
