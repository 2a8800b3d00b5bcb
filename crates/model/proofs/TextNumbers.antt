-- Numbers as words: what is printed is a word, and is read as the number.
use mathlib.Core.Path.{◌≡◌, refl, sym, ap, ap₂, ◌∙◌}
use mathlib.Core.Bool.{true, false, true≢false, not, ◌&&◌}
use mathlib.Core.List.{List, [], ◌∷◌, map}
use mathlib.Core.Option
use mathlib.Core.Option.{Option, some}
use Prim.Native.Nat.{ℕ, suc, ◌+◌, ◌-◌, ◌*◌, ◌<◌}
use native.Mathlib.Omega.{arith}
use borrow.Author.Tests.{lt-ltb, le-ltb, ne_eqb}
use lib.Dec.{eqb}
use lib.ListN.{length, length-append}
use lib.IntN.{ℤ, pos, negsuc, neg_ℤ}
use Rattle.whole.specs.Tab.{all}
use Rattle.rational.specs.Sum as Sum
use Rattle.rational.specs.Sum.{All}
use Rattle.rational.proofs.Sum.{All-imp}
use Rattle.model.specs.Text.{ascii, decimal, signed_decimal}
use Rattle.model.proofs.Numerals.{Digit, read_on, by_digits, reads_back, all_digits}
use Rattle.model.specs.Reading.{is_digit, is_natural, value, natural, whole, each}
use Rattle.model.proofs.TextParts.{Word}

-- ---- digits
digit-test : (b : ℕ) → Digit b → is_digit b ≡ true
digit-test b h = ap₂ (λ x y. not x && y) (le-ltb b _ (omega arith)) (lt-ltb b _ (omega arith))

digits-test : {ds : List ℕ} → All Digit ds → all is_digit ds ≡ true
unfolding all
digits-test Sum.none = refl
digits-test (Sum.more {a = b} h t) = rw (digit-test b h, digits-test t)

digit_other : (mark b : ℕ) → mark < 48 → Digit b → eqb b mark ≡ false
digit_other mark b m h = ne_eqb b mark (λ e. omega arith)

-- a number has a digit
some_digit : (n : ℕ) → 0 < length (decimal n)
some_digit = by_digits (λ n ds. 0 < length ds) (λ n small. omega arith) (λ n ds big h. simp length-append (omega arith))

-- ---- words
pub decimal-word : (n : ℕ) → Word (decimal n)
decimal-word n = record {
  no_space = All-imp (λ b. digit_other 32 b (omega arith)) (all_digits n);
  no_end = All-imp (λ b. digit_other 10 b (omega arith)) (all_digits n);
}

pub signed_word : (z : ℤ) → Word (signed_decimal z)
unfolding signed_decimal ascii
signed_word (pos n) = decimal-word n
signed_word (negsuc n) =
    let w = decimal-word (suc n) in
    record { no_space = Sum.more refl w.no_space; no_end = Sum.more refl w.no_end }

-- ---- reading
is-natural : (n : ℕ) → is_natural (decimal n) ≡ true
unfolding is_natural
is-natural n = go (decimal n) (some_digit n) (all_digits n)
  where
    go : (w : List ℕ) → 0 < length w → All Digit w → is_natural w ≡ true
    go [] s h = absurd (omega arith)
    go (d ∷ ds) s h = digits-test h

-- the value of digits is what the model reads them back as
value_is : (n : ℕ) (ds : List ℕ) → value n ds ≡ read_on n ds
unfolding value read_on
value_is n [] = refl
value_is n (d ∷ ds) = value_is (10 * n + (d - 48)) ds

-- The text of a number is read as the number.
pub natural_read : (n : ℕ) → natural (decimal n) ≡ some n
unfolding natural
natural_read n = rw (is-natural n) (ap some (value_is 0 (decimal n) ∙ reads_back n))

-- a word that begins with a digit has no minus sign
without_sign : (w : List ℕ) → All Digit w → is_natural w ≡ true → whole w ≡ Option.map pos (natural w)
unfolding whole is_natural
without_sign [] h e = absurd (true≢false (sym e))
without_sign (d ∷ ds) (Sum.more h t) e = rw (digit_other 45 d (omega arith) h)

pub whole_read : (z : ℤ) → whole (signed_decimal z) ≡ some z
unfolding whole signed_decimal ascii
whole_read (pos n) = without_sign (decimal n) (all_digits n) (is-natural n) ∙ ap (Option.map pos) (natural_read n)
whole_read (negsuc n) = ap (Option.map (λ n. neg_ℤ (pos n))) (natural_read (suc n))

-- So are the texts of numbers.
pub each_read : {A : Type 0} (read : List ℕ → Option A) (text : A → List ℕ) → ((a : A) → read (text a) ≡ some a)
    → (l : List A) → each read (map text l) ≡ some l
unfolding each
each_read read text h [] = refl
each_read read text h (a ∷ l) = rw (h a, each_read read text h l)

pub all_words : {A : Type 0} (text : A → List ℕ) → ((a : A) → Word (text a)) → (l : List A) → All Word (map text l)
all_words text h [] = Sum.none
all_words text h (a ∷ l) = Sum.more (h a) (all_words text h l)
