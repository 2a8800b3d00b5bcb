-- The sums of all columns, grown row by row, as a loop over rows grows them.
use Rattle.std.specs.Prelude.{◌≡◌, List, ℕ, ◌+◌, ◌<◌, ◌≤◌, get_or}
use Rattle.std.proofs.Common.{sym, ◌∙◌, ap, arith}
use Rattle.std.proofs.Math.Decide.{dec_lt}
use Rattle.whole.specs.Sum.{upto_by, upto_suc}
use Rattle.whole.specs.Tab.{tab, get_d_tab, get_d_tab_past, tab_cong}

-- F t i added up over the first rows t, for each of n columns i
abbrev pub columns : {M : Type 0} → M → (M → M → M) → (ℕ → ℕ → M) → ℕ → ℕ → List M
columns z add F n rows = tab n (λ i. upto_by z add (λ t. F t i) rows)

module _ {M : Type 0} (z : M) (add : M → M → M) (F : ℕ → ℕ → M) (n t : ℕ) where
  -- a loop's step: the next row is added
  pub columns-again : (sums r : List M) → sums ≡ columns z add F n t → r ≡ tab n (λ i. add (get_or sums i z) (F t i))
      → r ≡ columns z add F n (t + 1)
  columns-again sums r p q =
      q ∙ tab_cong n _ _ (λ i l. ap (λ x. add x (F t i)) (ap (λ (s : List M). get_or s i z) p ∙ get_d_tab n _ z i l)
      ∙ sym (upto_suc z add (λ t. F t i) t))

-- a table none of whose numbers exceeds b
pub tab_under : (n : ℕ) (f : ℕ → ℕ) (b : ℕ) → ((i : ℕ) → i < n → f i ≤ b) → (i : ℕ) → get_or (tab n f) i 0 ≤ b
tab_under n f b h i = go (dec_lt i n)
  where
    go : Dec (i < n) → get_or (tab n f) i 0 ≤ b
    go (yes l) = omega (arith, get_d_tab n f 0 i l, h i l)
    go (no l) = omega (arith, get_d_tab_past n f 0 i (omega arith))
