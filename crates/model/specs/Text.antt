-- What the program `motion` prints, in bytes: numbers, lines, and the output of a whole input.
use Rattle.std.specs.Prelude.{List, [], ◌∷◌, ◌++◌, map, Bool, true, false, cond, ℕ, zero, suc, ◌+◌, ◌-◌, ◌/◌, ◌%◌, ltb, length, ℤ, pos, negsuc}
use Prim.Native.Char.{code}
use Prim.Native.String.{String, [] as noText, ◌∷◌ as ◌then◌}
use Rattle.model.specs.Field.{Outcome, inside, verdict, refused, skipped}
use Rattle.model.specs.Run.{State, begin, tag, after, Answer, answer, fields}

-- ---- words
-- the bytes of a text in ASCII
unfoldable pub ascii : String → List ℕ
ascii noText = []
ascii (c then s) = code c ∷ ascii s

-- a digit, from 0 to 9
abbrev pub digit : ℕ → ℕ
digit d = 48 + d

-- the decimal digits of a number that has at most `most` of them
unfoldable pub decimal_within : ℕ → ℕ → List ℕ
decimal_within zero n = []
decimal_within (suc most) n = cond (ltb n 10) (digit n ∷ []) (decimal_within most (n / 10) ++ (digit (n % 10) ∷ []))

-- a natural number in decimal; n has at most n + 1 digits
unfoldable pub decimal : ℕ → List ℕ
decimal n = decimal_within (suc n) n

-- a whole number in decimal, a negative one after a minus sign
unfoldable pub signed_decimal : ℤ → List ℕ
signed_decimal (pos n) = decimal n
signed_decimal (negsuc n) = ascii "-" ++ decimal (suc n)

-- ---- lines
-- the words that follow the first one of a line, each after a space, and the end of the line
unfoldable pub following : List (List ℕ) → List ℕ
following [] = ascii "\n"
following (w ∷ ws) = ascii " " ++ (w ++ following ws)

-- a line of a word and others
abbrev pub line : List ℕ → List (List ℕ) → List ℕ
line w ws = w ++ following ws

-- the ends of a box as words: low and high end of each coordinate
unfoldable pub ends : List ℤ → List ℤ → List (List ℕ)
ends [] highs = []
ends (l ∷ lows) [] = []
ends (l ∷ lows) (h ∷ highs) = signed_decimal l ∷ signed_decimal h ∷ ends lows highs

-- the verdict as a word
abbrev pub verdict_word : Bool → List ℕ
verdict_word true = ascii "safe"
verdict_word false = ascii "unknown"

-- the line of an accepted field that leaves a set: field number, tag, the ends of the set's box
unfoldable pub box_line : ℕ → ℕ → List ℤ → List ℤ → List ℕ
box_line field tag lows highs = line (decimal field) (decimal tag ∷ ends lows highs)

-- the line of an accepted check
unfoldable pub verdict_line : ℕ → ℕ → Bool → List ℕ
verdict_line field tag safe = line (decimal field) (decimal tag ∷ verdict_word safe ∷ [])

-- the line of a refused field: its number, the refusal's number, the place of its first byte
unfoldable pub refusal_line : ℕ → ℕ → ℕ → List ℕ
refusal_line field number place = line (decimal field) (ascii "refused" ∷ decimal number ∷ decimal place ∷ [])

-- the line before the last: for each coordinate what folding added to its radius in the whole run
unfoldable pub folded_line : List ℕ → List ℕ
folded_line totals = line (ascii "folded") (map decimal totals)

-- the last line of a run in which no field was refused: the number of the last accepted field
unfoldable pub end_line : ℕ → List ℕ
end_line field = line (ascii "end") (decimal field ∷ [])

-- the line of an outcome; a skipped field has none
unfoldable pub outcome_line : ℕ → ℕ → Outcome → List ℕ
outcome_line field tag (inside b) = box_line field tag b.lows b.highs
outcome_line field tag (verdict safe) = verdict_line field tag safe
outcome_line field tag (refused number place) = refusal_line field number place
outcome_line field tag skipped = []

-- the line of an answer, given the field's tag
abbrev pub line_of : ℕ → Answer → List ℕ
line_of tag a = outcome_line a.field tag a.outcome

-- ---- a run
-- what is printed where no field is left: nothing after a refusal; an input has at least one field, so that else one was accepted
unfoldable pub closing : State → List ℕ
closing st = cond st.over [] (folded_line st.folded ++ end_line (st.count - 1))

-- what is printed for the fields that are left, the first of which has its first byte at `place`
unfoldable pub lines_from : ℕ → State → List (List ℕ) → List ℕ
lines_from place st [] = closing st
lines_from place st (f ∷ fs) = line_of (tag f) (answer place st f) ++ lines_from (place + length f) (after st f) fs

-- what is printed for an input
unfoldable pub printed : List ℕ → List ℕ
printed input = lines_from 0 begin (fields input)
