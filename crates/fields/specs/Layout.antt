-- The layout of a body, and a field's causes in parts, in the order in which they are asked.
use Rattle.std.specs.Prelude.{◌≡◌, List, [], ◌∷◌, ◌++◌, Bool, true, false, not, ℕ, ◌<◌, ◌≤◌, ltb, eqb}
use Rattle.std.proofs.Common.{ap, ◌∙◌}
use Rattle.std.proofs.Math.Option.{none}
use borrow.Author.Tests.{ltb-false, lt-ltb, le-ltb, eq-eqb, ne_eqb}
use Rattle.model.specs.Run.{Cause, ◌if◌, first_of}
use Rattle.zonotope.specs.Valid.{passed}
use Rattle.zonotope.specs.Answer.{Accepted, Refused, examined, or_else, first_append}
use Rattle.answers.specs.Accepted.{equal}

-- a body of `long` bytes; its counts, which fill the first of them, are `wrong` or not, and say that it has `bytes`
module _ (counts : ℕ) (wrong : Bool) (bytes long : ℕ) where
  -- the body is as long as its counts say: 3, 4, 3
  abbrev pub layout : List Cause
  layout = (3 if ltb long counts) ∷ (4 if wrong) ∷ (3 if not (eqb long bytes)) ∷ []

  -- none of these
  pub record LaidOut : Type 0 where
    pub counts_in : counts ≤ long
    pub right : wrong ≡ false
    pub whole : long ≡ bytes

  pub laid_out : first_of layout ≡ none → LaidOut
  unfolding first_of
  laid_out e =
      let a = passed (ltb long counts) 3 e in
      let b = passed wrong 4 a.1 in
      let c = passed (not (eqb long bytes)) 3 b.1 in
      record { counts_in = ltb-false long counts a.0; right = b.0; whole = equal long bytes c.0 }

  -- ---- the answer of each test
  pub counts-cut : long < counts → Refused 3 ≡ examined (first_of layout)
  unfolding first_of
  counts-cut h = rw (lt-ltb long counts h)

  module _ (h : counts ≤ long) where
    pub counts_wrong : wrong ≡ true → Refused 4 ≡ examined (first_of layout)
    unfolding first_of
    counts_wrong w = rw (le-ltb long counts h, w)

    module _ (w : wrong ≡ false) where
      pub length_wrong : (long ≡ bytes → ⊥) → Refused 3 ≡ examined (first_of layout)
      unfolding first_of
      length_wrong l = rw (le-ltb long counts h, w, ne_eqb long bytes l)

      pub nothing_wrong : long ≡ bytes → Accepted ≡ examined (first_of layout)
      unfolding first_of
      nothing_wrong l = rw (le-ltb long counts h, w, eq-eqb long bytes l)

-- ---- a field's causes in three parts; a cause that its kind doesn't have needs no place in them, since `first_of` passes it by
pub in_parts : (layout numbers result : List Cause)
    → first_of (layout ++ (numbers ++ result)) ≡ or_else (first_of layout) (or_else (first_of numbers) (first_of result))
in_parts layout numbers result = first_append layout (numbers ++ result) ∙ ap (or_else (first_of layout)) (first_append numbers result)
