-- Promised of the definitions: what a run holds and where its radii come from, which refusals come and in which order, what a rewritten
-- file gives, and what is printed.
use mathlib.Core.Path.{◌≡◌}
use mathlib.Core.List.{List, map, ◌∷◌, [], ◌++◌}
use mathlib.Core.Option.{some}
use mathlib.Core.Bool.{true, false, cond}
use Prim.Native.Nat.{ℕ, ◌<◌, ◌≤◌, ◌+◌, ◌-◌}
use lib.Dec.{eqb}
use lib.ListN.{get_or, length}
use lib.IntN.{ℤ, pos}
use lib.Signed.{lt_z}
use Rattle.whole.specs.Tab.{any}
use Rattle.rational.specs.Sum.{All}
use Rattle.model.specs.Limits.{record_identifiers, first_fresh, last_fresh, max_dimension}
use Rattle.model.specs.Set.{Zonotope}
use Rattle.model.specs.Bytes.{byte}
use Rattle.model.specs.Described.{within}
use Rattle.model.specs.Field.{reduction}
use Rattle.model.specs.Run.{run, begin, current, kind_of, tag, refusal, State, Cause, causes, fields, answers}
use Rattle.model.specs.Rewrite.{empty_disturbance, rewritten}
use Rattle.model.specs.Text.{decimal, signed_decimal, digit, ascii, printed, folded_line, end_line}
use Rattle.model.specs.Library.{Given, reduce_refusal, of_radii}
use Rattle.model.specs.Origin.{ruled_over, TotalsAre}
use Rattle.model.specs.OldRun.{old_run, AsNow, OnlyCounted, Kept}
use Rattle.model.proofs.Numerals.{read_back, read_signed}
use Rattle.model.proofs.LastLine.{lines_of, unrefused}
use Rattle.model.proofs.Shape.{Valid}
use Rattle.model.proofs.Sound as Sound
use Rattle.model.proofs.Origin as Origin
use Rattle.model.proofs.Narrower as Narrower
use Rattle.model.proofs.EmptyRun as EmptyRun
use Rattle.model.proofs.OldField as OldField
use Rattle.model.proofs.Kept as ModelKept
use Rattle.model.proofs.Rewritten as Rewritten
use Rattle.model.proofs.Numerals as Numerals
use Rattle.model.proofs.LastLine as LastLine

-- Over a whole run the current set is valid, and the next identifier stays above its identifiers.
pub run_valid : (fs : List (List ℕ)) (s : Zonotope) → (run fs begin).set ≡ some s
    → Valid record_identifiers s × All (◌< (run fs begin).next) s.identifiers
run_valid = Sound.run_valid

-- Over a whole run the next identifier stays in its range.
pub run-next : (fs : List (List ℕ)) → (first_fresh ≤ (run fs begin).next) × ((run fs begin).next ≤ last_fresh)
run-next = Sound.run-next

-- Over a whole run the four parts of each radius come to the one number that the rules give.
pub parts_are_radius : (fields : List (List ℕ)) (i : ℕ) → (let s = current (run fields begin) in
    i < s.dimension
    → get_or s.radii.carried i 0 + get_or s.radii.rounded i 0 + get_or s.radii.folded i 0 + get_or s.radii.given i 0
    ≡ ruled_over begin (λ j. 0) fields i)
parts_are_radius = Origin.parts_are_radius

-- A run's totals are the sums over its accepted fields of what folding added there, and fit.
pub totals : (fields : List (List ℕ)) (i : ℕ) → i < max_dimension → TotalsAre fields i
totals = Origin.totals

-- No call refuses a reduction with 10, whatever record it is given.
pub reduce_never_10 : (term_count_limit generator_count_limit : ℕ) (g : Given) → reduce_refusal term_count_limit generator_count_limit g ≡ some 10 → ⊥
reduce_never_10 = Narrower.reduce_never_10

-- No run refuses one with 10, whatever bytes its fields hold.
pub reduction_never_10 : (fs : List (List ℕ)) (f : List ℕ) → kind_of (tag f) ≡ reduction → refusal (run fs begin) f ≡ some 10 → ⊥
reduction_never_10 = Narrower.reduction_never_10

-- A field's causes of refusal are asked in this order; a kind has some of them.
pub order_of-causes : (st : State) (f : List ℕ)
    → within (map (λ (c : Cause). c.number) (causes st f)) (12 ∷ 2 ∷ 1 ∷ 3 ∷ 4 ∷ 3 ∷ 5 ∷ 6 ∷ 14 ∷ 7 ∷ 8 ∷ 9 ∷ 10 ∷ []) ≡ true
order_of-causes = EmptyRun.order_of-causes

-- Those of radii that a call is given, in this one.
pub order-of_radii : (n : ℕ) (radii : List ℕ) (dimension : ℕ)
    → map (λ (c : Cause). c.number) (of_radii n radii dimension) ≡ 4 ∷ 3 ∷ 5 ∷ 6 ∷ 14 ∷ []
order-of_radii = EmptyRun.order-of_radii

-- The old run refused, left and answered what the run now does, but where that refuses with 14.
pub old_otherwise : (st : State) (f : List ℕ) → ¬ (refusal st f ≡ some 14) → AsNow st f
old_otherwise = OldField.old_otherwise

-- Only an empty disturbance is refused with 14.
pub only_empty : (st : State) (f : List ℕ) → refusal st f ≡ some 14 → empty_disturbance f ≡ true
only_empty = OldField.only_empty

-- Fields without an empty disturbance ran as they do now.
pub old_run_otherwise : (fs : List (List ℕ)) (st : State) → any empty_disturbance fs ≡ false → old_run fs st ≡ run fs st
old_run_otherwise = OldField.old_run_otherwise

-- In an old run that met no refusal, a field that is refused with 14 now was accepted, and left all but the count as it was.
pub old_empty : (fs : List (List ℕ)) (f : List ℕ)
    → (let st = old_run fs begin in st.over ≡ false → refusal st f ≡ some 14 → OnlyCounted st f)
old_empty = OldField.old_empty

-- Where the old run met no refusal, the run of the rewritten file meets none, and the other fields leave and answer what they did.
pub keeps_results : (input : List ℕ) → (old_run (fields input) begin).over ≡ false → Kept input
keeps_results = ModelKept.keeps_results

-- A rewritten file has no empty disturbance.
pub none_left : (input : List ℕ) → any empty_disturbance (fields (rewritten input)) ≡ false
none_left = Rewritten.none_left

-- Rewriting it again changes nothing.
pub twice_is_once : (input : List ℕ) → rewritten (rewritten input) ≡ rewritten input
twice_is_once = Rewritten.twice_is_once

-- A number's digits read back as the number.
pub reads_back : (n : ℕ) → read_back (decimal n) ≡ n
reads_back = Numerals.reads_back

-- So does the text of a signed number.
pub signed_reads_back : (z : ℤ) → read_signed (signed_decimal z) ≡ z
signed_reads_back = Numerals.signed_reads_back

-- A number's text begins with 0 only where the number is 0.
pub no_needless_zero : (n : ℕ) → byte (decimal n) 0 ≡ digit 0 → decimal n ≡ ascii "0"
no_needless_zero = Numerals.no_needless_zero

-- It begins with a minus sign (the byte 45) exactly where the number is negative.
pub minus-sign : (z : ℤ) → eqb (byte (signed_decimal z) 0) 45 ≡ lt_z z (pos 0)
minus-sign = Numerals.minus-sign

-- An output has a line for each answer, and a `folded` and an `end` line exactly where no field is refused.
pub end_exactly : (input : List ℕ)
    → printed input
    ≡ lines_of (fields input) (answers 0 begin (fields input))
    ++ cond (unrefused begin (fields input)) (folded_line (run (fields input) begin).folded ++ end_line (length (fields input) - 1)) []
end_exactly = LastLine.end_exactly
