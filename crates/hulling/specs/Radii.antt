-- What a hull carries on, from independent parts.
use Rattle.std.specs.Prelude.{List, Bool, true, false, cond, ℕ, ◌≤◌, ltb, get_or}
use Rattle.whole.specs.Tab.{tab}
use Rattle.model.specs.Hull.{larger}
use Rattle.zonotope.specs.Record.{firsts}
use Rattle.image.specs.Remainder.{Below, tab-below}

-- the larger of the independent parts p and q at coordinate i
abbrev pub larger_part : List ℕ → List ℕ → ℕ → ℕ
larger_part p q i = larger (get_or p i 0) (get_or q i 0)

-- of n coordinates, 0 in the other places
abbrev pub larger_parts : ℕ → List ℕ → List ℕ → List ℕ
larger_parts n p q = firsts 6 (tab n (larger_part p q))

-- ---- sizes
larger_small : (K m n : ℕ) → m ≤ K → n ≤ K → larger m n ≤ K
larger_small K m n p q = go (ltb m n)
  where
    go : (b : Bool) → cond b n m ≤ K
    go true = q
    go false = p

pub parts_small : (n : ℕ) {p q : List ℕ} → Below 1048576 p → Below 1048576 q → Below 1048576 (larger_parts n p q)
parts_small n {p} {q} sp sq = tab-below 1048576 6 (λ i. get_or (tab n (larger_part p q)) i 0) (λ i _. inner.below i)
  where
    inner : Below 1048576 (tab n (larger_part p q))
    inner = tab-below 1048576 n (larger_part p q) (λ i _. larger_small 1048576 (get_or p i 0) (get_or q i 0) (sp.below i) (sq.below i))
