-- Promised of the tables from which a step's raw numbers are made.
use mathlib.Core.Path.{◌≡◌}
use mathlib.Core.List.{List}
use Prim.Native.Nat.{ℕ, ◌<◌}
use lib.IntN.{ℤ}
use Rattle.model.specs.Set.{Zonotope, at}
use Rattle.model.specs.Step.{dot, raw_pair}
use Rattle.forms.specs.Tables.{row_of}
use Rattle.forms.specs.Numbers.{column_table, both_table, six}
use Rattle.forms.specs.Numbers as Numbers

-- (Q + Qᵀ)g, made once for a term g, gives with each term h the pair's Q(g, h) + Q(h, g).
pub pair-number : (c a q v : List ℤ) (z : Zonotope) (i s t : ℕ) (g h : List ℤ) → i < 6
    → ((j : ℕ) → j < 6 → row_of v s j ≡ at g j) → ((j : ℕ) → j < 6 → row_of v t j ≡ at h j)
    → dot 6 (row_of v t) (row_of (column_table (both_table q) v s) i) ≡ raw_pair (six c a q) z g h i
pair-number = Numbers.pair-number
