-- The numbers that an array holds in its first places.
use Rattle.std.specs.Prelude.{List, ℕ, get_or}
use Rattle.whole.specs.Tab.{tab}

-- the first n numbers of a list
abbrev pub listed : ℕ → List ℕ → List ℕ
listed n xs = tab n (λ i. get_or xs i 0)
