-- Lines from their pieces: one law for each kind of line.
use Rattle.std.specs.Prelude.{◌≡◌, refl, Bool, List, [], ◌∷◌, ◌++◌, map, ℕ, ℤ}
use Rattle.std.proofs.Common.{ap, ap₂, ◌∙◌, append_assoc, arith}
use Rattle.model.specs.Text.{ascii, decimal, following, ends, verdict_word, box_line, verdict_line, refusal_line, folded_line, end_line}
use Rattle.text.specs.Appended.{Appended, both, named}
use Rattle.text.specs.Pieces.{item, spaced}

-- No line with numbers of 64 bits is longer: two numbers of up to 20 digits, twelve ends of up to 21 bytes, a space before each but the
-- first, and the line's end are 306 bytes.
abbrev pub longest_line : ℕ
longest_line = 320

-- the line before the last: a word of 6 bytes, six numbers of up to 20 digits, each after a space, and the line's end
abbrev pub longest_folded_line : ℕ
longest_folded_line = 133

-- the last line: a word of 3 bytes, a number after a space, and the line's end
abbrev pub longest_end_line : ℕ
longest_end_line = 25

-- words, each after a space, and the line's end are what follows a line's first word
spaced-following : (ws : List (List ℕ)) → spaced ws ++ ascii "\n" ≡ following ws
unfolding spaced following ascii
spaced-following [] = refl
spaced-following (w ∷ ws) = ap (32 ∷◌) (append_assoc w (spaced ws) (ascii "\n") ∙ ap (w ++◌) (spaced-following ws))

module _ {s0 s1 s2 : List ℕ} {p0 p1 p2 : ℕ} (field : ℕ) {tag t : ℕ} (same : t ≡ tag) (x : Appended 20 s0 s1 p0 p1 (decimal field))
    (y : Appended 21 s1 s2 p1 p2 (item t)) where
  pub box_put : {s3 s4 : List ℕ} {p3 p4 : ℕ} (low high : List ℤ) → Appended 264 s2 s3 p2 p3 (spaced (ends low high))
      → Appended 1 s3 s4 p3 p4 (ascii "\n") → Appended longest_line s0 s4 p0 p4 (box_line field tag low high)
  unfolding box_line following ascii
  box_put low high z end =
      named (omega arith) (ap₂ (λ n l. decimal field ++ (32 ∷ (decimal n ++ l))) same (spaced-following (ends low high)))
      (both x (both y (both z end)))

  pub verdict_put : {s3 : List ℕ} {p3 : ℕ} (safe : Bool) → Appended 9 s2 s3 p2 p3 (following (verdict_word safe ∷ []))
      → Appended longest_line s0 s3 p0 p3 (verdict_line field tag safe)
  unfolding verdict_line following ascii
  verdict_put safe z =
      named (omega arith) (ap (λ n. decimal field ++ (32 ∷ (decimal n ++ following (verdict_word safe ∷ [])))) same) (both x (both y z))

pub refusal_put : {s0 s1 s2 s3 s4 s5 : List ℕ} {p0 p1 p2 p3 p4 p5 : ℕ} (field place : ℕ) {number n : ℕ} → n ≡ number
    → Appended 20 s0 s1 p0 p1 (decimal field) → Appended 8 s1 s2 p1 p2 (ascii " refused")
    → Appended 21 s2 s3 p2 p3 (item n) → Appended 21 s3 s4 p3 p4 (item place) → Appended 1 s4 s5 p4 p5 (ascii "\n")
    → Appended longest_line s0 s5 p0 p5 (refusal_line field number place)
unfolding refusal_line following ascii
refusal_put field place same x word y z end =
    named (omega arith) (ap (λ n. decimal field ++ (ascii " refused" ++ (item n ++ (item place ++ ascii "\n")))) same)
    (both x (both word (both y (both z end))))

pub folded_put : {s0 s1 s2 s3 : List ℕ} {p0 p1 p2 p3 : ℕ} (totals : List ℕ) → Appended 6 s0 s1 p0 p1 (ascii "folded")
    → Appended 126 s1 s2 p1 p2 (spaced (map decimal totals)) → Appended 1 s2 s3 p2 p3 (ascii "\n")
    → Appended longest_folded_line s0 s3 p0 p3 (folded_line totals)
unfolding folded_line
folded_put totals word x end =
    named (omega arith) (ap (ascii "folded" ++◌) (spaced-following (map decimal totals))) (both word (both x end))

pub end_put : {s0 s1 s2 s3 : List ℕ} {p0 p1 p2 p3 : ℕ} (field : ℕ) → Appended 3 s0 s1 p0 p1 (ascii "end")
    → Appended 21 s1 s2 p1 p2 (item field) → Appended 1 s2 s3 p2 p3 (ascii "\n") → Appended longest_end_line s0 s3 p0 p3 (end_line field)
unfolding end_line following ascii
end_put field word x end = named (omega arith) refl (both word (both x end))

pub closing_put : {s0 s1 s2 : List ℕ} {p0 p1 p2 : ℕ} {folded end : List ℕ} → Appended longest_folded_line s0 s1 p0 p1 folded
    → Appended longest_end_line s1 s2 p1 p2 end → Appended longest_line s0 s2 p0 p2 (folded ++ end)
closing_put x y = named (omega arith) refl (both x y)
