-- The first field of an input, by the input's own bytes.
use Rattle.std.specs.Prelude.{◌≡◌, refl, List, [], ◌∷◌, Bool, true, ◌||◌, ℕ, zero, suc, ◌+◌, ◌*◌, ◌<◌, ◌≤◌, length, take, drop}
use Rattle.std.proofs.Common.{sym, ◌∙◌, ap, zero-add, suc-add, arith, get_or-take, take-take, take_all, length-take-le}
use Rattle.std.proofs.Math.Path.{ap₂}
use Rattle.std.proofs.Math.Bool.{false}
use Rattle.std.proofs.Math.Decide.{dec_lt}
use borrow.Author.Tests.{lt-ltb, le-ltb}
use Rattle.std.proofs.Math.Dec.{ltb}
use Rattle.model.specs.Bytes.{byte, number}
use Rattle.model.specs.Run.{misplaced, cut, body_length, body, field_length, first_field, tag}

-- taking and dropping
drop-take : (k n : ℕ) (l : List ℕ) → drop k (take (k + n) l) ≡ take n (drop k l)
drop-take zero n l = ap (λ m. take m l) (zero-add n)
drop-take (suc k) n [] = ap (λ m. drop (suc k) (take m [])) (suc-add k n) ∙ sym (take_all n [] (omega arith))
drop-take (suc k) n (x ∷ l) = ap (λ m. drop (suc k) (take m (x ∷ l))) (suc-add k n) ∙ drop-take k n l

module _ (rest : List ℕ) where
  -- its header is the input's
  header_byte : (i : ℕ) → i < 3 → byte (first_field rest) i ≡ byte rest i
  header_byte i h = get_or-take (field_length rest) rest i 0 (omega arith)

  pub first-tag : tag (first_field rest) ≡ byte rest 0
  first-tag = header_byte 0 (omega arith)

  pub first-length : body_length (first_field rest) ≡ body_length rest
  unfolding number
  first-length = ap₂ (λ x y. x + 256 * (y + 256 * 0)) (header_byte 1 (omega arith)) (header_byte 2 (omega arith))

  -- its body is the part of the input that the header announces
  pub first_body : body (first_field rest) ≡ take (body_length rest) (drop 3 rest)
  first_body =
      ap (λ n. take n (drop 3 (first_field rest))) first-length
      ∙ ap (take (body_length rest)) (drop-take 3 (body_length rest) rest)
      ∙ take-take (body_length rest) (body_length rest) (drop 3 rest) (omega arith)

  -- a field that is there as a whole
  pub first-whole : field_length rest ≤ length rest → length (first_field rest) ≡ field_length rest
  first-whole h = length-take-le (field_length rest) rest h

  -- one that is not is all that is left
  pub first-last : length rest ≤ field_length rest → first_field rest ≡ rest
  first-last h = take_all (field_length rest) rest h

  -- it is cut where the input ends before
  pub first-cut : cut (first_field rest) ≡ ltb (length rest) (field_length rest)
  unfolding cut
  first-cut = go (dec_lt (length rest) (field_length rest))
    where
      cut-long : (n b : ℕ) → 3 + b ≤ n → (ltb n 3 || ltb n (3 + b)) ≡ false
      cut-long n b h = rw (le-ltb n 3 (omega arith), le-ltb n (3 + b) h)

      or_right_true : (x : Bool) {y : Bool} → y ≡ true → (x || y) ≡ true
      or_right_true true e = refl
      or_right_true false e = e

      go : Dec (length rest < field_length rest)
          → (ltb (length (first_field rest)) 3 || ltb (length (first_field rest)) (3 + body_length (first_field rest)))
          ≡ ltb (length rest) (field_length rest)
      go (yes h) =
          rw (lt-ltb (length rest) (field_length rest) h)
          (or_right_true (ltb (length (first_field rest)) 3)
          (ap₂ (λ m n. ltb m (3 + n)) (ap length (first-last (omega arith))) first-length ∙ lt-ltb (length rest) (field_length rest) h))
      go (no h) =
          rw (le-ltb (length rest) (field_length rest) (omega arith))
          (ap₂ (λ m n. ltb m 3 || ltb m (3 + n)) (first-whole (omega arith)) first-length
          ∙ cut-long (field_length rest) (body_length rest) (omega arith))

-- whether its tag stands where it may is told by the input's first byte
pub first-misplaced : (count : ℕ) (rest : List ℕ) → misplaced count (first_field rest) ≡ misplaced count rest
unfolding misplaced
first-misplaced count [] = ap (misplaced count) (take_all (field_length []) [] (omega arith))
first-misplaced count (t ∷ rest) = ap (λ m. misplaced count (take m (t ∷ rest))) (three (body_length (t ∷ rest))) ∙ by_tag count
  where
    three : (n : ℕ) → 3 + n ≡ suc (2 + n)
    three n = omega arith

    by_tag : (k : ℕ) → misplaced k (t ∷ take (2 + body_length (t ∷ rest)) rest) ≡ misplaced k (t ∷ rest)
    by_tag zero = refl
    by_tag (suc k) = refl
