-- The pair table's rule: the pairs of n terms in row order, (0,0), (0,1) .. (n-1,n-1), each as the code n·first + second.
use Rattle.std.specs.Prelude.{List, [], ◌++◌, ℕ, zero, suc, ◌+◌, ◌*◌}
use Rattle.whole.specs.Tab.{tab}

-- the pairs of rows first, first + 1 .. of which `left` are left
unfoldable pub rows_from : ℕ → ℕ → ℕ → List ℕ
rows_from n first zero = []
rows_from n first (suc left) = tab (suc left) (λ k. n * first + (first + k)) ++ rows_from n (first + 1) left

unfoldable pub pair_codes : ℕ → List ℕ
pair_codes n = rows_from n 0 n
