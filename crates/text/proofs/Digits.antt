-- The decimal text of a number in the library is that of lines.
use Rattle.std.specs.Prelude.{◌≡◌, ◌∷◌, ℕ, suc, ◌^◌, ◌<◌, ℤ, pos, negsuc}
use Rattle.std.proofs.Common.{ap, arith, lt-ltb, le-ltb}
use Rattle.std.specs.Fmt as Library
use Rattle.std.proofs.lemmas.Fmt.{AppendsLastDigit, decimal_from_appends, length-decimal-le_succ}
use lib.Signed.{mag}
use Rattle.model.specs.Text.{ascii, decimal_within, decimal, signed_decimal}

by_last_digits : AppendsLastDigit decimal_within
unfolding decimal_within
by_last_digits = record { one = λ k n small. rw (lt-ltb n 10 small); more = λ k n big. rw (le-ltb n 10 big) }

pub same_digits : (n : ℕ) → n < 2 ^ 64 → decimal n ≡ Library.decimal n
unfolding decimal
same_digits n h = decimal_from_appends decimal_within by_last_digits (suc n) n h (omega (arith, length-decimal-le_succ n h))

pub same_signed_digits : (z : ℤ) → mag z < 2 ^ 63 → signed_decimal z ≡ Library.signed_decimal z
unfolding signed_decimal ascii
same_signed_digits (pos n) h = same_digits n (omega arith)
same_signed_digits (negsuc n) h = ap (45 ∷◌) (same_digits (suc n) (omega arith))
