-- What is known of a field before its body is read.
use Rattle.std.specs.Prelude.{◌≡◌, List, [], ◌∷◌, Bool, true, false, not, ◌||◌, ℕ, zero, suc, ◌≤◌, ◌<◌, ltb, eqb, length, Result, MatchResult}
use Rattle.std.proofs.Math.Option.{none, some}
use Rattle.std.proofs.Common.{ltb-false}
use Rattle.model.specs.Limits.{last_field, last_tag}
use Rattle.model.specs.Bytes.{byte}
use Rattle.model.specs.Run.{Cause as Asked, ◌if◌, first_of, misplaced, cut, first_field}
use Rattle.zonotope.specs.declared.Cause.{Cause}
use Rattle.zonotope.specs.declared.Cause.TheVariants.{Tag}
use Rattle.zonotope.specs.Answer.{cause_of}
use Rattle.zonotope.specs.Valid.{passed}
use Rattle.fields.specs.declared.Kind.{Kind}
use Rattle.fields.specs.Kinds.{tag_of}
use Rattle.advance.specs.declared.Header.{Header}

-- the header of the first field of what is left of the input: how many bytes the field has, never more than a header can say, and whether
-- it is there as a whole
pub record HeaderOf (rest : List ℕ) (h : Header) : Type 0 where
  pub bytes : h.bytes ≡ length (first_field rest)
  pub whole : h.whole ≡ not (cut (first_field rest))
  pub few : h.bytes ≤ 65538
  pub left : h.whole ≡ false → length rest < 65538

-- too many fields: 12; the tag: 2; the end of the input: 1
abbrev pub of_header : ℕ → List ℕ → List Asked
of_header count f = (12 if ltb last_field count) ∷ (2 if misplaced count f) ∷ (1 if cut f) ∷ []

-- whether a tag can't stand after this many fields
abbrev pub misplaced_tag : ℕ → ℕ → Bool
misplaced_tag zero t = not (eqb t 1)
misplaced_tag (suc n) t = ltb t 2 || ltb last_tag t

-- the kind with this tag, which may stand after this many fields, or 2
abbrev pub Placed : ℕ → ℕ → Result Kind Cause → Type 0
Placed count t r = MatchResult r (λ k. (tag_of k ≡ t) × (misplaced_tag count t ≡ false)) (λ c. (c ≡ Tag) × (misplaced_tag count t ≡ true))

-- the kind of the first field, or the first cause that refuses it before its body is read
abbrev pub Headed : ℕ → List ℕ → Result Kind Cause → Type 0
Headed count rest r = let o = first_of (of_header count (first_field rest)) in
    MatchResult r (λ k. (tag_of k ≡ byte rest 0) × (o ≡ none)) (λ c. (n : ℕ) × (o ≡ some n) × (c ≡ cause_of n))

-- a header that nothing refuses
pub header_passed : (count : ℕ) (f : List ℕ) → first_of (of_header count f) ≡ none
    → (count ≤ last_field) × (misplaced count f ≡ false) × (cut f ≡ false)
unfolding first_of
header_passed count f e =
    let late = passed (ltb last_field count) 12 e in
    let tag = passed (misplaced count f) 2 late.1 in
    let end = passed (cut f) 1 tag.1 in
    (ltb-false last_field count late.0, tag.0, end.0)
