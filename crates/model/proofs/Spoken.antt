-- Each line that is printed, as it is read.
use mathlib.Core.Path.{◌≡◌, refl, sym, ap, ◌∙◌}
use mathlib.Core.Bool.{Bool, true, false, cond, true≢false}
use mathlib.Core.List.{List, [], ◌∷◌, ◌++◌, map}
use mathlib.Core.Option.{none, some}
use Prim.Native.Nat.{ℕ}
use lib.Dec.{eqb}
use lib.IntN.{ℤ}
use Rattle.whole.specs.Tab.{all}
use Rattle.rational.specs.Sum as Sum
use Rattle.model.specs.Text as Text
use Rattle.model.specs.Text.{ascii, decimal, signed_decimal, verdict_word}
use Rattle.model.specs.Reading.{bytes, line_end, space, same, is_natural, natural, whole, each}
use Rattle.model.specs.Reading.{Line, judged, refused_with, of_field, end_with, closing, line, lines}
use Rattle.model.proofs.TextParts.{Word, reads_line}
use Rattle.model.proofs.TextNumbers.{decimal-word, signed_word, natural_read, whole_read, each_read, all_words}

-- ---- the ends of a box
-- low and high end of each coordinate
unfoldable pub in_turn : List ℤ → List ℤ → List ℤ
in_turn [] highs = []
in_turn (l ∷ lows) [] = []
in_turn (l ∷ lows) (h ∷ highs) = l ∷ h ∷ in_turn lows highs

ends_are : (lows highs : List ℤ) → Text.ends lows highs ≡ map signed_decimal (in_turn lows highs)
unfolding Text.ends in_turn
ends_are [] highs = refl
ends_are (l ∷ lows) [] = refl
ends_are (l ∷ lows) (h ∷ highs) = ap (λ ws. signed_decimal l ∷ signed_decimal h ∷ ws) (ends_are lows highs)

-- ---- by the first words
numbered : (w : List ℕ) (ws : List (List ℕ)) (field : ℕ) → natural w ≡ some field → line (w ∷ ws) ≡ of_field field ws
unfolding line
numbered w ws field e = rw (e, line)

named : (w : List ℕ) (ws : List (List ℕ)) (ns : List ℕ) → natural w ≡ none → each natural ws ≡ some ns → line (w ∷ ws) ≡ closing w ns
unfolding line
named w ws ns e d = rw (e, line) (rw d)

boxed : (field tag : ℕ) (w : List ℕ) (ws : List (List ℕ)) (ends : List ℤ) → natural w ≡ some tag → each whole ws ≡ some ends
    → of_field field (w ∷ ws) ≡ Line.box field tag ends
unfolding of_field
boxed field tag w ws ends e d = rw (e, of_field) (rw d)

worded : (field tag : ℕ) (w : List ℕ) (ws : List (List ℕ)) → natural w ≡ some tag → each whole ws ≡ none
    → of_field field (w ∷ ws) ≡ judged field tag ws
unfolding of_field
worded field tag w ws e d = rw (e, of_field) (rw d)

refused : (field : ℕ) (w : List ℕ) (ws : List (List ℕ)) (ns : List ℕ) → natural w ≡ none → each natural ws ≡ some ns
    → of_field field (w ∷ ws) ≡ refused_with field w ns
unfolding of_field
refused field w ws ns e d = rw (e, of_field) (rw d)

-- ---- words
-- neither a space nor a line end
unfoldable pub plain : List ℕ → Bool
plain [] = true
plain (b ∷ bs) = cond (eqb b space) false (cond (eqb b line_end) false (plain bs))

pub plain_word : (w : List ℕ) → plain w ≡ true → Word w
unfolding plain
plain_word [] e = record { no_space = Sum.none; no_end = Sum.none }
plain_word (b ∷ bs) e = go (eqb b space) (eqb b line_end) refl refl e (plain_word bs)
  where
    go : (x y : Bool) → eqb b space ≡ x → eqb b line_end ≡ y → cond x false (cond y false (plain bs)) ≡ true
        → (plain bs ≡ true → Word bs) → Word (b ∷ bs)
    go true y p q e later = absurd (true≢false (sym e))
    go false true p q e later = absurd (true≢false (sym e))
    go false false p q e later = let w = later e in record { no_space = Sum.more p w.no_space; no_end = Sum.more q w.no_end }

verdict-word : (safe : Bool) → Word (verdict_word safe)
unfolding ascii plain
verdict-word true = plain_word _ refl
verdict-word false = plain_word _ refl

-- ---- the lines
module _ (rest : List ℕ) where
  pub reads_box : (field tag : ℕ) (lows highs : List ℤ)
      → lines (Text.box_line field tag lows highs ++ rest) ≡ Line.box field tag (in_turn lows highs) ∷ lines rest
  unfolding Text.box_line
  reads_box field tag lows highs =
      let zs = in_turn lows highs in
      ap (λ ws. lines (Text.line (decimal field) (decimal tag ∷ ws) ++ rest)) (ends_are lows highs)
      ∙ reads_line rest (decimal-word field) (Sum.more (decimal-word tag) (all_words signed_decimal signed_word zs))
      ∙ ap (◌∷ lines rest) (numbered (decimal field) _ field (natural_read field)
      ∙ boxed field tag (decimal tag) (map signed_decimal zs) zs (natural_read tag) (each_read whole signed_decimal whole_read zs))

  judged_as : (field tag : ℕ) (safe : Bool) → of_field field (decimal tag ∷ verdict_word safe ∷ []) ≡ Line.verdict field tag safe
  unfolding each whole natural is_natural all judged same bytes ascii
  judged_as field tag true = worded field tag (decimal tag) _ (natural_read tag) refl
  judged_as field tag false = worded field tag (decimal tag) _ (natural_read tag) refl

  pub reads_verdict : (field tag : ℕ) (safe : Bool)
      → lines (Text.verdict_line field tag safe ++ rest) ≡ Line.verdict field tag safe ∷ lines rest
  unfolding Text.verdict_line
  reads_verdict field tag safe =
      reads_line rest (decimal-word field) (Sum.more (decimal-word tag) (Sum.more (verdict-word safe) Sum.none))
      ∙ ap (◌∷ lines rest) (numbered (decimal field) _ field (natural_read field) ∙ judged_as field tag safe)

  refused_as : (field number place : ℕ)
      → of_field field (ascii "refused" ∷ decimal number ∷ decimal place ∷ []) ≡ Line.refusal field number place
  unfolding natural is_natural all refused_with same bytes ascii
  refused_as field number place =
      refused field (ascii "refused") _ (number ∷ place ∷ []) refl (each_read natural decimal natural_read (number ∷ place ∷ []))

  refused-word : Word (ascii "refused")
  unfolding ascii plain
  refused-word = plain_word _ refl

  pub reads_refusal : (field number place : ℕ)
      → lines (Text.refusal_line field number place ++ rest) ≡ Line.refusal field number place ∷ lines rest
  unfolding Text.refusal_line
  reads_refusal field number place =
      reads_line rest (decimal-word field) (Sum.more refused-word (all_words decimal decimal-word (number ∷ place ∷ [])))
      ∙ ap (◌∷ lines rest) (numbered (decimal field) _ field (natural_read field) ∙ refused_as field number place)

  folded_word : Word (ascii "folded")
  unfolding ascii plain
  folded_word = plain_word _ refl

  folded_as : (totals : List ℕ) → line (ascii "folded" ∷ map decimal totals) ≡ Line.folded totals
  unfolding natural is_natural all same bytes ascii
  folded_as totals = named (ascii "folded") _ totals refl (each_read natural decimal natural_read totals)

  pub reads_folded : (totals : List ℕ) → lines (Text.folded_line totals ++ rest) ≡ Line.folded totals ∷ lines rest
  unfolding Text.folded_line
  reads_folded totals = reads_line rest folded_word (all_words decimal decimal-word totals) ∙ ap (◌∷ lines rest) (folded_as totals)

  end_word : Word (ascii "end")
  unfolding ascii plain
  end_word = plain_word _ refl

  end_as : (field : ℕ) → line (ascii "end" ∷ decimal field ∷ []) ≡ Line.end field
  unfolding natural is_natural all same bytes ascii end_with
  end_as field = named (ascii "end") _ (field ∷ []) refl (each_read natural decimal natural_read (field ∷ []))

  pub reads_end : (field : ℕ) → lines (Text.end_line field ++ rest) ≡ Line.end field ∷ lines rest
  unfolding Text.end_line
  reads_end field = reads_line rest end_word (Sum.more (decimal-word field) Sum.none) ∙ ap (◌∷ lines rest) (end_as field)
