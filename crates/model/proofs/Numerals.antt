-- Numbers as text: what is printed reads back as the number, has no needless zero, and a minus sign exactly where the number is negative.
use mathlib.Core.Path.{◌≡◌, refl, sym, ap, ◌∙◌, subst}
use mathlib.Core.Bool.{cond}
use mathlib.Core.List.{List, [], ◌∷◌, ◌++◌}
use Prim.Native.Nat.{ℕ, zero, suc, ◌+◌, ◌-◌, ◌*◌, ◌/◌, ◌%◌, ◌≤◌, ◌<◌}
use native.Mathlib.Decide.{dec_lt}
use native.Mathlib.Omega.{arith}
use borrow.Author.Tests.{lt-ltb, le-ltb, ne_eqb}
use lib.Dec.{eqb}
use lib.IntN.{ℤ, pos, negsuc, neg_ℤ}
use lib.Signed.{lt_z}
use Rattle.rational.specs.Sum.{All, none, more}
use Rattle.rational.proofs.Sum.{All-++}
use Rattle.model.specs.Bytes.{byte}
use Rattle.model.specs.Text.{ascii, digit, decimal_within, decimal, signed_decimal}

-- ---- reading
-- the number with the digits of n and then these
unfoldable pub read_on : ℕ → List ℕ → ℕ
read_on n [] = n
read_on n (d ∷ ds) = read_on (10 * n + (d - digit 0)) ds

-- the value of digits
abbrev pub read_back : List ℕ → ℕ
read_back ds = read_on 0 ds

-- a byte that is a digit
abbrev pub Digit : ℕ → Type 0
Digit b = (digit 0 ≤ b) × (b ≤ digit 9)

-- a minus sign
abbrev minus : ℕ
minus = 45

-- the value of digits, or of a minus sign and digits
unfoldable pub read_signed : List ℕ → ℤ
read_signed [] = pos 0
read_signed (b ∷ ds) = cond (eqb b minus) (neg_ℤ (pos (read_back ds))) (pos (read_back (b ∷ ds)))

-- ---- a number of one digit, or a tenth of it and one digit more
one-digit : (most n : ℕ) → n < 10 → decimal_within (suc most) n ≡ digit n ∷ []
unfolding decimal_within
one-digit most n h = rw (lt-ltb n 10 h)

more-digits : (most n : ℕ) → 10 ≤ n → decimal_within (suc most) n ≡ decimal_within most (n / 10) ++ (digit (n % 10) ∷ [])
unfolding decimal_within
more-digits most n h = rw (le-ltb n 10 h)

-- what holds of one digit, and of a number where it holds of its tenth, holds of every number
module _ (P : ℕ → List ℕ → Type 0) (one : (n : ℕ) → n < 10 → P n (digit n ∷ []))
    (more : (n : ℕ) (ds : List ℕ) → 10 ≤ n → P (n / 10) ds → P n (ds ++ (digit (n % 10) ∷ []))) where
  within : (most n : ℕ) → n < most → P n (decimal_within most n)
  within zero n h = absurd (omega arith)
  within (suc most) n h = go (dec_lt n 10) (λ big. within most (n / 10) (omega arith))
    where
      go : Dec (n < 10) → (10 ≤ n → P (n / 10) (decimal_within most (n / 10))) → P n (decimal_within (suc most) n)
      go (yes small) tenth = subst (P n) (sym (one-digit most n small)) (one n small)
      go (no k) tenth = let big : 10 ≤ n = omega arith in subst (P n) (sym (more-digits most n big)) (more n _ big (tenth big))

  pub by_digits : (n : ℕ) → P n (decimal n)
  unfolding decimal
  by_digits n = within (suc n) n (omega arith)

-- ---- reading back
read_append : (n : ℕ) (xs ys : List ℕ) → read_on n (xs ++ ys) ≡ read_on (read_on n xs) ys
unfolding read_on
read_append n [] ys = refl
read_append n (x ∷ xs) ys = read_append (10 * n + (x - digit 0)) xs ys

-- The text of a natural number reads back as the number.
pub reads_back : (n : ℕ) → read_back (decimal n) ≡ n
unfolding read_on
reads_back = by_digits (λ n ds. read_back ds ≡ n) (λ n small. omega arith) (λ n ds big e.
    read_append 0 ds (digit (n % 10) ∷ []) ∙ ap (λ k. 10 * k + (digit (n % 10) - digit 0)) e ∙ omega arith)

-- It consists of digits.
pub all_digits : (n : ℕ) → All Digit (decimal n)
all_digits = by_digits (λ n ds. All Digit ds) (λ n small. more (omega arith, omega arith) none) (λ n ds big e.
    All-++ e (more (omega arith, omega arith) none))

-- ---- no needless zero
first_of : (xs ys : List ℕ) → 0 < byte xs 0 → byte (xs ++ ys) 0 ≡ byte xs 0
first_of [] ys h = absurd (omega arith)
first_of (x ∷ xs) ys h = refl

-- A positive number's text begins with a digit above 0.
pub begins-above-zero : (n : ℕ) → 0 < n → digit 0 < byte (decimal n) 0
begins-above-zero = by_digits (λ n ds. 0 < n → digit 0 < byte ds 0) (λ n small h. omega arith) (λ n ds big e h.
    let first = e (omega arith) in subst (λ b. digit 0 < b) (sym (first_of ds _ (omega arith))) first)

-- A text that begins with 0 is 0's.
pub no_needless_zero : (n : ℕ) → byte (decimal n) 0 ≡ digit 0 → decimal n ≡ ascii "0"
unfolding decimal decimal_within ascii
no_needless_zero zero e = refl
no_needless_zero (suc n) e = absurd (omega (arith, begins-above-zero (suc n) (omega arith)))

-- ---- whole numbers
-- the first byte of a natural number's text
first-digit : (n : ℕ) → digit 0 ≤ byte (decimal n) 0
first-digit = by_digits (λ n ds. digit 0 ≤ byte ds 0) (λ n small. omega arith) (λ n ds big e.
    subst (λ b. digit 0 ≤ b) (sym (first_of ds _ (omega arith))) e)

read_unsigned : (ds : List ℕ) → digit 0 ≤ byte ds 0 → read_signed ds ≡ pos (read_back ds)
unfolding read_signed
read_unsigned [] h = absurd (omega arith)
read_unsigned (b ∷ ds) h = rw (ne_eqb b minus (λ e. omega arith))

-- The text of a whole number reads back as the number.
pub signed_reads_back : (z : ℤ) → read_signed (signed_decimal z) ≡ z
unfolding signed_decimal read_signed ascii
signed_reads_back (pos n) = read_unsigned (decimal n) (first-digit n) ∙ ap pos (reads_back n)
signed_reads_back (negsuc n) = ap (λ k. neg_ℤ (pos k)) (reads_back (suc n))

-- It has a minus sign exactly where the number is negative.
pub minus-sign : (z : ℤ) → eqb (byte (signed_decimal z) 0) minus ≡ lt_z z (pos 0)
unfolding signed_decimal ascii
minus-sign (pos n) = ne_eqb (byte (decimal n) 0) minus (λ e. omega (arith, first-digit n)) ∙ sym (le-ltb n 0 (omega arith))
minus-sign (negsuc n) = refl
