-- What half-widths add to S is the definition's; it is small, and 0 past the step's coordinates.
use Rattle.std.specs.Prelude.{List, ◌≡◌, length}
use Rattle.std.proofs.Common.{◌∙◌, mul-le-mul, mul-le-mul_right, suc-mul, arith}
use Rattle.std.proofs.Math.Path.{ap, ap₂}
use Prim.Native.Nat.{ℕ, suc, ◌+◌, ◌*◌, ◌<◌, ◌≤◌}
use Rattle.std.proofs.Math.Decide.{dec_lt}
use Rattle.std.proofs.Math.ListN.{get_or, get_or-eq_default}
use Rattle.whole.specs.Sum.{monoid_ℕ, upto_cong, upto_bound}
use Rattle.whole.specs.Tab.{tab, tab_cong, get_d_tab, get_d_tab_past}
use Rattle.model.specs.Set.{Zonotope, span}
use Rattle.model.specs.Ranged.{gain}
use Rattle.forms.specs.Dot.{upto_zero}
use Rattle.image.specs.Remainder.{Below, tab-below}
use Rattle.image.specs.Gaining.{Gaining, gain_limit}
use Rattle.widths.specs.Widths.{WidthsAccepted, widths_of, width_term, row_gain, form_row, form_gain, gain_at}

-- ---- sizes
pub product_small : (w factor m : ℕ) → w ≤ 32768 → factor ≤ 1048576 → m ≤ 1048576 → w * (factor * m) ≤ 36028797018963968
product_small w factor m h f l = mul-le-mul h (mul-le-mul f l)

module _ (n : ℕ) (spans : List ℕ) (few : n ≤ 6) (hs : Below 1048576 spans) where
  pub term_small : (widths : List ℕ) → Below 32768 widths → (from factor : ℕ) → factor ≤ 1048576
      → (l : ℕ) → width_term n spans widths from factor l ≤ 36028797018963968
  term_small widths hw from factor hf l =
      product_small (get_or widths (from + l) 0) factor (get_or spans l 0) (hw.below (from + l)) hf (hs.below l)

  pub row_small : (widths : List ℕ) → Below 32768 widths → (from factor : ℕ) → factor ≤ 1048576
      → row_gain n spans widths from factor ≤ 216172782113783808
  row_small widths hw from factor hf =
      omega (
        arith,
        upto_bound (width_term n spans widths from factor) 36028797018963968 n (λ l _. term_small widths hw from factor hf l),
      )

  module _ (dq : List ℕ) (hq : Below 32768 dq) (i : ℕ) where
    pub form-row_small : (j : ℕ) → form_row n spans dq i j ≤ 216172782113783808
    form-row_small j = row_small dq hq ((i * n + j) * n) (get_or spans j 0) (hs.below j)

    pub form_small : form_gain n spans dq i ≤ 1297036692682702848
    form_small = omega (arith, upto_bound (form_row n spans dq i) 216172782113783808 n (λ j _. form-row_small j))

  linear_small : (da : List ℕ) → Below 32768 da → (i : ℕ) → row_gain n spans da (i * n) 4096 ≤ 844424930131968
  linear_small da ha i =
      omega (
        arith,
        upto_bound (width_term n spans da (i * n) 4096) 140737488355328 n
            (λ l _. mul-le-mul (ha.below (i * n + l)) (mul-le-mul {n₁ = 4096} {n₂ = 4096} (omega arith) (hs.below l))),
      )

  gain_small : (da dq : List ℕ) → Below 32768 da → Below 32768 dq → (i : ℕ) → gain_at n spans da dq i ≤ gain_limit
  gain_small da dq ha hq i = omega (arith, linear_small da ha i, form_small dq hq i)

-- ---- where the half-widths stand
-- a row that is among m rows ends within them
pub row_ends : (n m i : ℕ) → i < m → i * n + n ≤ m * n
row_ends n m i h = let r : suc i * n ≤ m * n = mul-le-mul_right n h in omega (arith, suc-mul i n)

-- one that isn't begins past them
row-begins : (n m i : ℕ) → m ≤ i → m * n ≤ i * n
row-begins n m i h = mul-le-mul_right n h

-- past the end of a list of half-widths
row_none : (n : ℕ) (spans widths : List ℕ) (from factor : ℕ) → length widths ≤ from → row_gain n spans widths from factor ≡ 0
row_none n spans widths from factor h =
    upto_zero monoid_ℕ (width_term n spans widths from factor) n (λ l _.
    let e : get_or widths (from + l) 0 ≡ 0 = get_or-eq_default widths 0 {n = from + l} (omega arith) in
    rw e (omega arith))

-- ---- accepted half-widths
module _ (m n : ℕ) (spans da dq : List ℕ) (ok : WidthsAccepted m n da dq) where
  pub gain_past : (i : ℕ) → m ≤ i → gain_at n spans da dq i ≡ 0
  gain_past i h =
      let r = row-begins n m i h in
      ap₂ ◌+◌ (row_none n spans da (i * n) 4096 (rw ok.linears r))
      (upto_zero monoid_ℕ (form_row n spans dq i) n (λ j _.
      row_none n spans dq ((i * n + j) * n) (get_or spans j 0)
      (rw ok.quadratics (row-begins n (m * n) (i * n + j) (omega arith)))))

  accepted_small : Below 1048576 spans → (i : ℕ) → gain_at n spans da dq i ≤ gain_limit
  accepted_small hs = gain_small n spans ok.columns hs da dq ok.linear_small ok.quadratic_small

  -- where the half-widths of coordinate i stand
  pub form-ends : (i : ℕ) → i < m → (i * n + n ≤ length da) × ((i * n + n) * n ≤ length dq)
  form-ends i h =
      let r = row_ends n m i h in
      (rw ok.linears r, rw ok.quadratics (mul-le-mul_right n r))

-- ---- they are the definition's
unit_first : (w m : ℕ) → w * (4096 * m) ≡ 4096 * (w * m)
unit_first w m = omega arith

module _ (n : ℕ) (z : Zonotope) (da dq spans : List ℕ) (few : n ≤ 6) (e : spans ≡ tab 6 (span z)) where
  span-at : (j : ℕ) → j < n → get_or spans j 0 ≡ span z j
  span-at j h = ap (λ (l : List ℕ). get_or l j 0) e ∙ get_d_tab 6 (span z) 0 j (omega arith)

  gain_is : (i : ℕ) → gain_at n spans da dq i ≡ gain n (widths_of da dq) z i
  unfolding gain
  gain_is i =
      ap₂ ◌+◌
      (upto_cong 0 ◌+◌ _ _ n (λ j h.
      ap (λ (x : ℕ). get_or da (i * n + j) 0 * (4096 * x)) (span-at j h) ∙ unit_first (get_or da (i * n + j) 0) (span z j)))
      (upto_cong 0 ◌+◌ _ _ n (λ j h. upto_cong 0 ◌+◌ _ _ n (λ l k.
      ap₂ (λ (x y : ℕ). get_or dq ((i * n + j) * n + l) 0 * (x * y)) (span-at j h) (span-at l k))))

-- what `gains` promises
pub gained : (m n : ℕ) (z : Zonotope) (spans da dq : List ℕ) → WidthsAccepted m n da dq
    → (spans ≡ tab 6 (span z)) × Below 1048576 spans → (r : List ℕ) → r ≡ tab 6 (gain_at n spans da dq)
    → (r ≡ tab 6 (gain n (widths_of da dq) z)) × Gaining m r
gained m n z spans da dq ok hs r f = (f ∙ tab_cong 6 _ _ (λ i _. gain_is n z da dq spans ok.columns hs.0 i), rw f small)
  where
    small : Gaining m (tab 6 (gain_at n spans da dq))
    small = record {
      below = tab-below gain_limit 6 (gain_at n spans da dq) (λ i _. accepted_small m n spans da dq ok hs.1 i);
      past = λ i h. past i h (dec_lt i 6);
    }
      where
        past : (i : ℕ) → m ≤ i → Dec (i < 6) → get_or (tab 6 (gain_at n spans da dq)) i 0 ≡ 0
        past i h (yes p) = get_d_tab 6 (gain_at n spans da dq) 0 i p ∙ gain_past m n spans da dq ok i h
        past i h (no p) = get_d_tab_past 6 (gain_at n spans da dq) 0 i (omega arith)
