-- Laws of the numbers in bytes: from the bytes as code puts them together, and from the bits of a signed number.
use Rattle.std.specs.Prelude.{◌≡◌, List, ℕ, zero, suc, ◌+◌, ◌*◌, ◌^◌, ◌<◌, negsuc}
use Rattle.std.proofs.Common.{ap, zero-add, suc-add, pow-suc, arith, lt-ltb, le-ltb}
use Rattle.std.proofs.Math.Decide.{dec_lt}
use Rattle.std.specs.Int.{w32, w64}
use mir.Val.{to_z}
use Rattle.model.specs.Bytes.{byte, number, signed}

-- ---- unsigned
pub two_bytes : (b : List ℕ) (i : ℕ) → number 2 b i ≡ byte b i + 256 * byte b (i + 1)
unfolding number
two_bytes b i = omega arith

-- a number of j + k bytes is one of j bytes, and one of k bytes after it
pub number_split : (j k : ℕ) (b : List ℕ) (i : ℕ) → number (j + k) b i ≡ number j b i + 256 ^ j * number k b (i + j)
unfolding number
number_split zero k b i = let here : i + 0 ≡ i = omega arith in rw (zero-add k, here) (omega arith)
number_split (suc j) k b i =
    let next : i + suc j ≡ i + 1 + j = omega arith in
    rw (suc-add j k, next, pow-suc 256 j) (omega (arith, number_split j k b (i + 1)))

pub four_bytes : (b : List ℕ) (i : ℕ)
    → number 4 b i ≡ byte b i + 256 * byte b (i + 1) + 65536 * byte b (i + 2) + 16777216 * byte b (i + 3)
four_bytes b i =
    let last : byte b (i + 2 + 1) ≡ byte b (i + 3) = ap (byte b) (omega arith) in
    omega (arith, number_split 2 2 b i, two_bytes b i, two_bytes b (i + 2))

pub eight_bytes : (b : List ℕ) (i : ℕ)
    → number 8 b i
    ≡ byte b i + 256 * byte b (i + 1) + 65536 * byte b (i + 2) + 16777216 * byte b (i + 3) + 4294967296 * byte b (i + 4)
    + 1099511627776 * byte b (i + 5) + 281474976710656 * byte b (i + 6) + 72057594037927936 * byte b (i + 7)
eight_bytes b i =
    let fifth : byte b (i + 4 + 1) ≡ byte b (i + 5) = ap (byte b) (omega arith) in
    let sixth : byte b (i + 4 + 2) ≡ byte b (i + 6) = ap (byte b) (omega arith) in
    let last : byte b (i + 4 + 3) ≡ byte b (i + 7) = ap (byte b) (omega arith) in
    omega (arith, number_split 4 4 b i, four_bytes b i, four_bytes b (i + 4))

-- ---- signed
pub signed_32 : (n : ℕ) → to_z w32 n ≡ signed (2 ^ 31) n
signed_32 n = go (dec_lt n (2 ^ 31)) where
  go : Dec (n < 2 ^ 31) → to_z w32 n ≡ signed (2 ^ 31) n
  go (yes l) = rw (lt-ltb n (2 ^ 31) l)
  go (no l) = rw (le-ltb n (2 ^ 31) (omega arith)) (ap negsuc (omega arith))

pub signed_64 : (n : ℕ) → to_z w64 n ≡ signed (2 ^ 63) n
signed_64 n = go (dec_lt n (2 ^ 63)) where
  go : Dec (n < 2 ^ 63) → to_z w64 n ≡ signed (2 ^ 63) n
  go (yes l) = rw (lt-ltb n (2 ^ 63) l)
  go (no l) = rw (le-ltb n (2 ^ 63) (omega arith)) (ap negsuc (omega arith))
