-- Outputs as they are read: document 01's listing, a refusal, and bytes that are no line.
use mathlib.Core.Path.{◌≡◌, refl}
use mathlib.Core.Bool.{true, false}
use mathlib.Core.List.{[], ◌∷◌}
use lib.IntN.{pos, negsuc}
use Rattle.whole.specs.Tab.{all}
use Rattle.model.specs.Reading.{bytes, same, onto, parts, is_natural, value, natural, whole, each}
use Rattle.model.specs.Reading.{box, verdict, refusal, folded, end, strange}
use Rattle.model.specs.Reading.{judged, refused_with, of_field, end_with, line, lines_of, lines}

pub listing_read :
    (lines (bytes "0 1 -4096 4096\n1 2 -4096 8192\n2 7 safe\n3 5 0 4096\nfolded 0 0 0 0 0 0\nend 3\n")
    ≡ box 0 1 (negsuc 4095 ∷ pos 4096 ∷ []) ∷ box 1 2 (negsuc 4095 ∷ pos 8192 ∷ []) ∷ verdict 2 7 true ∷ box 3 5 (pos 0 ∷ pos 4096 ∷ [])
    ∷ folded (0 ∷ 0 ∷ 0 ∷ 0 ∷ 0 ∷ 0 ∷ []) ∷ end 3 ∷ [])
    × (lines (bytes "0 1 -4096 4096 0 0\n1 7 unknown\n2 refused 14 86\n")
    ≡ box 0 1 (negsuc 4095 ∷ pos 4096 ∷ pos 0 ∷ pos 0 ∷ []) ∷ verdict 1 7 false ∷ refusal 2 14 86 ∷ [])
unfolding bytes same onto parts is_natural value natural whole each judged refused_with of_field end_with line lines_of lines all
listing_read = (refl, refl)

-- no line end, two spaces, one at the end, a sign without digits, two signs, a letter, another word, too few numbers and too many, no words
pub strange_read :
    (lines (bytes "0 1 -4096 4096") ≡ strange ∷ [])
    × (lines (bytes "0 1  -4096 4096\n0 1 -4096 4096 \n") ≡ strange ∷ strange ∷ [])
    × (lines (bytes "0 1 - 4096\n0 1 --4096 4096\n0 1 -4O96 4096\n") ≡ strange ∷ strange ∷ strange ∷ [])
    × (lines (bytes "2 7 Safe\n2 7 safe safe\n2 safe\n") ≡ strange ∷ strange ∷ strange ∷ [])
    × (lines (bytes "2 refused 14\n2 refused 14 86 1\nend\nend 1 2\n\n") ≡ strange ∷ strange ∷ strange ∷ strange ∷ strange ∷ [])
unfolding bytes same onto parts is_natural value natural whole each judged refused_with of_field end_with line lines_of lines all
strange_read = (refl, refl, refl, refl, refl)
