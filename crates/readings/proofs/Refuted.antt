-- Outputs that break the claim `Ruled`, for a start set 4096·α, a check and a tied sum with 4096·α: where a motion is at the reading, a
-- line `outside` is wrong.
use mathlib.Core.Path.{◌≡◌, refl, sym, ap, ap₂, ◌∙◌, subst}
use mathlib.Core.List.{List, [], ◌∷◌, ◌++◌}
use Prim.Native.Nat.{ℕ, ◌^◌, ◌<◌}
use native.Mathlib.Omega.{arith}
use lib.Dec.{lit<}
use lib.Pow.{pow_pos}
use lib.IntN.{pos}
use Rattle.rational.specs.Rational.{ι, 1ℚ, ◌+ℚ◌, ◌*ℚ◌}
use Rattle.rational.proofs.Pinned.{ι-+, ι-*, over_eq}
use Rattle.rational.proofs.Bounds.{within-one}
use Rattle.floats.specs.Bits.{value}
use Rattle.model.specs.Field.{check}
use Rattle.model.specs.Bytes.{number}
use Rattle.model.specs.Run.{tag, kind_of, fields, fields_within}
use Rattle.model.specs.Reading.{bytes, parts, onto}
use Rattle.model.specs.Promised.{field_at, coordinates_after, coordinates_from, position}
use Rattle.model.proofs.Refuted.{input, at, allowed, counted, moved, up}
use Rattle.readings.specs.Entry.{entry_at}
use Rattle.readings.specs.Ruled.{entries_from, Ruled}

-- the readings 1 and 2
abbrev log : List ℕ
log = (1 ∷ 0 ∷ 0 ∷ 128 ∷ 63 ∷ []) ++ (1 ∷ 0 ∷ 0 ∷ 0 ∷ 64 ∷ [])

one : value 1065353216 ≡ ι (pos 1)
unfolding ι
one = (over_eq (pos (2 ^ 149)) (2 ^ 149) (pos 1) 1 (pow_pos 149) (lit< tt)).1 refl

two : value 1073741824 ≡ ι (pos 2)
unfolding ι
two = (over_eq (pos (2 ^ 150)) (2 ^ 149) (pos 2) 1 (pow_pos 149) (lit< tt)).1 refl

-- 4096 times them
at_one : ι (pos 4096) *ℚ value 1065353216 ≡ ι (pos 4096)
at_one = ap (ι (pos 4096) *ℚ◌) one ∙ sym (ι-* (pos 4096) (pos 1))

at-two : ι (pos 4096) *ℚ value 1073741824 ≡ ι (pos 8192)
at-two = ap (ι (pos 4096) *ℚ◌) two ∙ sym (ι-* (pos 4096) (pos 2))

-- the motion whose factor is 1 is at 4096 after the start set and at 8192 after the sum
first_there : position (at 1ℚ) input 0 0 ≡ ι (pos 4096) *ℚ value 1065353216
first_there = (moved 1ℚ).0 ∙ up ∙ sym at_one

last_there : position (at 1ℚ) input 2 0 ≡ ι (pos 4096) *ℚ value 1073741824
last_there = (moved 1ℚ).2 ∙ ap₂ ◌+ℚ◌ up up ∙ sym (ι-+ (pos 4096) (pos 4096)) ∙ sym at-two

not_checks : ¬ (kind_of (tag (field_at input 0)) ≡ check) × ¬ (kind_of (tag (field_at input 2)) ≡ check)
unfolding kind_of fields fields_within number
not_checks = ((λ e. let z : ◌≡◌ {A = ℕ} 0 1 = cc in omega arith), (λ e. let z : ◌≡◌ {A = ℕ} 0 1 = cc in omega arith))

-- The first line is the start set's, the second the sum's: the check has none.
pub first_outside : ¬ (Ruled log input (bytes "outside\ninside\n1 1 0\n"))
unfolding entry_at number bytes parts onto coordinates_from coordinates_after entries_from fields fields_within kind_of
first_outside r =
    r 0 0 1065353216 (subst (0 <◌) (sym counted) (lit< tt)) not_checks.0 (lit< tt) refl (lit< tt) refl (at 1ℚ) (allowed within-one)
    first_there

pub second_outside : ¬ (Ruled log input (bytes "inside\noutside\n1 1 0\n"))
unfolding entry_at number bytes parts onto coordinates_from coordinates_after entries_from fields fields_within kind_of
second_outside r =
    r 2 0 1073741824 (subst (2 <◌) (sym counted) (lit< tt)) not_checks.1 (lit< tt) refl (lit< tt) refl (at 1ℚ) (allowed within-one)
    last_there
