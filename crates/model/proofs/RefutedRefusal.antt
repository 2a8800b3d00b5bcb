-- Outputs for an input with a refused field, a start set and a byte that is no tag: what is printed for it keeps the promise, and each text
-- with a fault doesn't.
use mathlib.Core.Path.{◌≡◌, refl, sym, ◌∙◌, ap, ap₂, subst}
use mathlib.Core.List.{List, [], ◌∷◌, ◌++◌}
use mathlib.Core.Option
use mathlib.Core.Option.{some}
use Prim.Native.Nat.{ℕ, ◌<◌}
use Prim.Native.String.{String}
use native.Mathlib.Omega.{arith}
use lib.Dec.{lit<}
use lib.ListN.{length, get_or, take, drop}
use Rattle.whole.specs.Sum.{sum_by, upto_by}
use Rattle.whole.specs.Tab.{tab, any, all}
use Rattle.rational.specs.Power.{even}
use Rattle.model.specs.Set.{term_sizes, generator_sizes, span, radius_of}
use Rattle.model.specs.Valid.{order, rises, bad_range, bad_order, is_too_wide}
use Rattle.model.specs.Finish.{folds}
use Rattle.model.specs.Operations.{least, greatest}
use Rattle.model.specs.Operations.{box, low_end, high_end, safe}
use Rattle.model.specs.Bytes.{number, word, long}
use Rattle.model.specs.Body.{given_set}
use Rattle.model.specs.Field.{meaning}
use Rattle.model.specs.Run.{begin, refusal, tag, kind_of, first_of, misplaced, cut, causes, accepted, after, outcome}
use Rattle.model.specs.Run.{with_folds, fields, fields_within, run}
use Rattle.model.specs.Text.{ascii, decimal_within, decimal, signed_decimal, following, ends, box_line, refusal_line}
use Rattle.model.specs.Text.{outcome_line, closing, lines_from, printed}
use Rattle.model.specs.Reading.{Line, bytes, same, onto, parts, is_natural, value, natural, whole, each}
use Rattle.model.specs.Reading.{judged, refused_with, of_field, end_with, line, lines_of, lines}
use Rattle.model.specs.Promised.{accepted_from, accepted_fields, field_at, place_of}
use Rattle.model.specs.Promised.{Promised}
use Rattle.model.proofs.Promise.{promise}
use Rattle.model.proofs.Refuted.{set}

-- ---- a refusal: a start set, and a byte that is no tag
abbrev pub refused_input : List ℕ
refused_input = (1 ∷ set) ++ (255 ∷ [])

refused-counted : (accepted_fields refused_input ≡ 1) × (refusal (run (take 1 (fields refused_input)) begin) (field_at refused_input 1) ≡ some 2)
    × (place_of (fields refused_input) 1 ≡ 24) × (length (fields refused_input) ≡ 2)
unfolding accepted_from accepted after with_folds folds causes first_of misplaced cut kind_of fields fields_within meaning number word long
    given_set bad_range bad_order is_too_wide span term_sizes generator_sizes radius_of rises order sum_by upto_by tab any all
    run place_of
refused-counted = (refl, refl, refl, refl)

-- its line is the last, and has the cause's number and the place of the field's first byte
pub refuses : (output : List ℕ) → Promised refused_input output → drop 1 (lines output) ≡ Line.refusal 1 2 24 ∷ []
refuses output kept =
    let c = refused-counted in
    let r = subst (λ k. k < length fs → Refuses k) c.0 kept.closing.refused (subst (1 <◌) (sym c.3) (lit< tt)) in
    r.2 ∙ ap₂ (λ n at. Line.refusal 1 n at ∷ []) (ap (λ o. Option.get_or o 0) (sym r.1 ∙ c.1)) c.2
  where
    fs : List (List ℕ)
    fs = fields refused_input

    Refuses : ℕ → Type 0
    Refuses k =
        (n : ℕ) × (refusal (run (take k fs) begin) (get_or fs k []) ≡ some n)
        × (drop k (lines output) ≡ Line.refusal k n (place_of fs k) ∷ [])

abbrev WrongRefusal : String → Type 0
WrongRefusal text = Promised refused_input (bytes text) → ⊥

abbrev number_and_place : Line → ℕ × ℕ
number_and_place (Line.box field tag ends) = (0, 0)
number_and_place (Line.verdict field tag safe) = (0, 0)
number_and_place (Line.refusal field number place) = (number, place)
number_and_place (Line.folded totals) = (0, 0)
number_and_place (Line.end field) = (0, 0)
number_and_place Line.strange = (0, 0)

-- another cause
pub another_cause : WrongRefusal "0 1 -4096 4096\n1 refused 1 24\n"
unfolding bytes same onto parts is_natural value natural whole each judged refused_with of_field end_with line lines_of lines all
another_cause k = omega (arith, ap (λ ls. (number_and_place (get_or ls 0 Line.strange)).0) (refuses _ k))

-- another place
pub another_place : WrongRefusal "0 1 -4096 4096\n1 refused 2 23\n"
unfolding bytes same onto parts is_natural value natural whole each judged refused_with of_field end_with line lines_of lines all
another_place k = omega (arith, ap (λ ls. (number_and_place (get_or ls 0 Line.strange)).1) (refuses _ k))

-- no line for the refusal
pub refusal-left_out : WrongRefusal "0 1 -4096 4096\n"
unfolding bytes same onto parts is_natural value natural whole each judged refused_with of_field end_with line lines_of lines all
refusal-left_out k = omega (arith, ap length (refuses _ k))

-- closing lines in its place
pub closed-all_the_same : WrongRefusal "0 1 -4096 4096\nfolded 0 0 0 0 0 0\nend 0\n"
unfolding bytes same onto parts is_natural value natural whole each judged refused_with of_field end_with line lines_of lines all
closed-all_the_same k = omega (arith, ap length (refuses _ k))

-- an `end` line after it
pub end_after_refusal : WrongRefusal "0 1 -4096 4096\n1 refused 2 24\nend 0\n"
unfolding bytes same onto parts is_natural value natural whole each judged refused_with of_field end_with line lines_of lines all
end_after_refusal k = omega (arith, ap length (refuses _ k))

-- ---- what is printed for it
printed_as : printed refused_input ≡ bytes "0 1 -4096 4096\n1 refused 2 24\n"
unfolding printed lines_from closing outcome_line box_line refusal_line ends following signed_decimal decimal decimal_within ascii bytes outcome
    after with_folds folds causes first_of misplaced cut kind_of fields fields_within meaning number word long given_set bad_range bad_order
    is_too_wide span term_sizes generator_sizes radius_of rises order sum_by upto_by tab any all box low_end high_end least greatest even
printed_as = refl

pub right_refusal : Promised refused_input (bytes "0 1 -4096 4096\n1 refused 2 24\n")
right_refusal = subst (Promised refused_input) printed_as (promise refused_input)
