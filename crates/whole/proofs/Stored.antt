-- What a 64-bit signed local that was given z holds: z read back from its bits, which is z where z fits.
use lib.IntN.{ℤ}
use mir.Syntax.{w64}
use mir.Val.{to_z, of_z}

abbrev pub stored : ℤ → ℤ
stored z = to_z w64 (of_z w64 z)
