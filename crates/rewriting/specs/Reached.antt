-- What calls lead to, and what is still to be written there.
use Rattle.std.specs.Prelude.{◌≡◌, List, ◌++◌, true, ℕ, ◌≤◌, length, take, drop}
use Rattle.model.specs.Rewrite.{rewritten}
use Rattle.rewriting.specs.declared.Held.{Held}
use Rattle.rewriting.specs.Given.{held_bytes, undecided}

-- what calls can lead to
pub record Reached (h : Held) : Type 0 where
  pub room : length h.bytes ≡ 28
  pub within : h.count ≤ 28
  -- the held bytes don't decide their field
  pub waiting : undecided (held_bytes h) ≡ true

-- what is still to be written where this much of the input is still to come
abbrev pub remaining : Held → List ℕ → List ℕ
remaining h more = take h.left more ++ rewritten (held_bytes h ++ drop h.left more)
