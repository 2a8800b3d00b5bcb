-- Numbers in a run file: little-endian, words signed 32-bit. A position past the end reads 0; whether a body is long enough is asked first.
use Rattle.std.specs.Prelude.{List, cond, ℕ, zero, suc, ◌+◌, ◌*◌, ◌-◌, ◌^◌, ltb, get_or, ℤ, pos, negsuc}
use Rattle.whole.specs.Tab.{tab}

-- the byte at a position
abbrev pub byte : List ℕ → ℕ → ℕ
byte b i = get_or b i 0

-- the unsigned number in k bytes from a position on, the least byte first
unfoldable pub number : ℕ → List ℕ → ℕ → ℕ
number zero b i = 0
number (suc k) b i = byte b i + 256 * number k b (i + 1)

-- the signed number whose bits are n, where a half of the patterns is negative
abbrev pub signed : ℕ → ℕ → ℤ
signed half n = cond (ltb n half) (pos n) (negsuc (half + half - 1 - n))

-- a signed number of 4 bytes, and of 8
unfoldable pub word : List ℕ → ℕ → ℤ
word b i = signed (2 ^ 31) (number 4 b i)

unfoldable pub long : List ℕ → ℕ → ℤ
long b i = signed (2 ^ 63) (number 8 b i)

-- n words, one after the other
abbrev pub words : List ℕ → ℕ → ℕ → List ℤ
words b i n = tab n (λ k. word b (i + 4 * k))
