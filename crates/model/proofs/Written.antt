-- Fields of a run written as bytes, for the runs that are computed.
use mathlib.Core.List.{List, [], ◌∷◌, ◌++◌}
use Prim.Native.Nat.{ℕ, zero, suc, ◌-◌, ◌/◌, ◌%◌, ◌^◌}
use lib.ListN.{length}
use lib.IntN.{ℤ, pos, negsuc}

-- a number in k bytes, the least byte first
abbrev pub bytes : ℕ → ℕ → List ℕ
bytes zero n = []
bytes (suc k) n = n % 256 ∷ bytes k (n / 256)

-- a signed number in k bytes
abbrev pub signed : ℕ → ℤ → List ℕ
signed k (pos n) = bytes k n
signed k (negsuc n) = bytes k (256 ^ k - 1 - n)

-- words, one after the other
abbrev pub words : List ℤ → List ℕ
words [] = []
words (z ∷ zs) = signed 4 z ++ words zs

-- a field: tag, length, body
abbrev pub field : ℕ → List ℕ → List ℕ
field tag body = tag ∷ (bytes 2 (length body) ++ body)
