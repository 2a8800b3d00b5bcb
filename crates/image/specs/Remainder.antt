-- S and what of it is carried on, in the shapes in which the code computes them, and how large they are.
use Rattle.std.specs.Prelude.{List, ◌≡◌, refl, ℤ, replicate}
use Rattle.std.proofs.Common.{◌∙◌, mul-le-mul, arith}
use Rattle.std.proofs.Math.Path.{ap₂}
use Prim.Native.Nat.{ℕ, zero, suc, ◌+◌, ◌*◌, ◌/◌, ◌<◌, ◌≤◌}
use Rattle.std.proofs.Math.Decide.{dec_lt}
use Rattle.std.proofs.Math.IntN.{nat_abs}
use Rattle.std.proofs.Math.ListN.{get_or}
use Rattle.whole.specs.Round.{scale}
use Rattle.whole.specs.Sum.{upto_ℕ, upto_cong, upto_bound}
use Rattle.whole.specs.Tab.{tab, get_d_tab, get_d_tab_past}
use Rattle.rows.specs.Rows.{Small}
use Rattle.model.specs.Set.{Zonotope, at, radius, term_sizes, generator_sizes}
use Rattle.model.specs.Step.{remainder}
use Rattle.forms.specs.Tables.{row_of, form_of}
use Rattle.forms.specs.Numbers.{six, both_table, line_table, table_limit, slope-number}
use Rattle.raw.specs.Limits.{row_sizes}

-- every number is at most K; past the end stands 0, so that no index matters
pub record Below (K : ℕ) (xs : List ℕ) : Type 0 where
  pub below : (x : ℕ) → get_or xs x 0 ≤ K

-- the sizes of coordinate i over the first rows, and a radius
abbrev pub spread : List ℤ → ℕ → List ℕ → ℕ → ℕ
spread xs rows radii i = row_sizes xs rows i + get_or radii i 0

-- |Q_jl|·(D_j·r_l + r_j·D_l + r_j·r_l)
abbrev pub cell_of : ℕ → ℕ → ℕ → ℕ → ℕ → ℕ
cell_of q dj dl rj rl = q * (dj * rl + rj * dl + rj * rl)

-- the cell in row j and column l, with D in d and r in r
abbrev pub row_cell : List ℤ → List ℕ → List ℕ → ℕ → ℕ → ℕ → ℕ
row_cell q d r i j l = cell_of (nat_abs (form_of q i j l)) (get_or d j 0) (get_or d l 0) (get_or r j 0) (get_or r l 0)

-- at coordinate i: the sum over j of |line j|·w_j
abbrev pub slope_sum : List ℤ → List ℕ → ℕ → ℕ
slope_sum lines w i = upto_ℕ (λ j. nat_abs (row_of lines i j) * get_or w j 0) 6

-- the sum of the cells in row j
abbrev pub cross_row : List ℤ → List ℕ → List ℕ → ℕ → ℕ → ℕ
cross_row q d r i j = upto_ℕ (row_cell q d r i j) 6

-- and in all rows
abbrev pub cross_sum : List ℤ → List ℕ → List ℕ → ℕ → ℕ
cross_sum q d r i = upto_ℕ (cross_row q d r i) 6

-- in whole units, rounded up
abbrev pub rounded_up : ℕ → ℕ
rounded_up s = (s + 16777215) / scale

-- what coordinate i carries on, where S is a sum of lines, a sum of cells and what it gains
abbrev pub carried_from : List ℤ → List ℤ → List ℕ → List ℕ → List ℕ → List ℕ → ℕ → ℕ
carried_from lines q d r w gains i = rounded_up (slope_sum lines w i + cross_sum q d r i + get_or gains i 0)

-- no rounded number and no part of a new radius is larger
abbrev pub image_limit : ℕ
image_limit = 1099511627776

-- ---- sizes
pub rounded_up_small : (n : ℕ) → n ≤ 9223372036854775808 → rounded_up n ≤ image_limit
rounded_up_small n h = omega arith

pub zeros-at : (n x : ℕ) → ◌≡◌ {A = ℕ} (get_or (replicate n 0) x 0) 0
zeros-at zero x = refl
zeros-at (suc n) zero = refl
zeros-at (suc n) (suc x) = zeros-at n x

pub zeros-below : (K n : ℕ) → Below K (replicate n 0)
zeros-below K n = record { below = λ x. omega (arith, zeros-at n x) }

pub tab-below : (K n : ℕ) (f : ℕ → ℕ) → ((x : ℕ) → x < n → f x ≤ K) → Below K (tab n f)
tab-below K n f h = record { below = λ x. go x (dec_lt x n) }
  where
    go : (x : ℕ) → Dec (x < n) → get_or (tab n f) x 0 ≤ K
    go x (yes p) = rw (get_d_tab n f 0 x p) (h x p)
    go x (no p) = rw (get_d_tab_past n f 0 x (omega arith)) (omega arith)

pub cell_small : (q dj dl rj rl : ℕ) → q ≤ 32768 → dj ≤ 1048576 → dl ≤ 1048576 → rj ≤ 1048576 → rl ≤ 1048576
    → cell_of q dj dl rj rl ≤ 108086391056891904
cell_small q dj dl rj rl hq h1 h2 h3 h4 =
    let p : dj * rl ≤ 1099511627776 = mul-le-mul h1 h4 in
    let s : rj * dl ≤ 1099511627776 = mul-le-mul h3 h2 in
    let t : rj * rl ≤ 1099511627776 = mul-le-mul h3 h4 in
    let u : dj * rl + rj * dl + rj * rl ≤ 3298534883328 = omega arith in
    mul-le-mul hq u

module _ (q : List ℤ) (d r : List ℕ) (hq : Small 32768 q) (hd : Below 1048576 d) (hr : Below 1048576 r) (i : ℕ) where
  pub row_cell_small : (j l : ℕ) → row_cell q d r i j l ≤ 108086391056891904
  row_cell_small j l =
      cell_small (nat_abs (form_of q i j l)) (get_or d j 0) (get_or d l 0) (get_or r j 0) (get_or r l 0) (hq.small ((i * 6 + j) * 6 + l))
      (hd.below j) (hd.below l) (hr.below j) (hr.below l)

  pub cross-row_small : (j : ℕ) → cross_row q d r i j ≤ 648518346341351424
  cross-row_small j = upto_bound (row_cell q d r i j) 108086391056891904 6 (λ l _. row_cell_small j l)

  pub cross_small : cross_sum q d r i ≤ 3891110078048108544
  cross_small = upto_bound (cross_row q d r i) 648518346341351424 6 (λ j _. cross-row_small j)

-- where D_j and r_j are 0, so is row j
cell_zero : (q dj dl rj rl : ℕ) → dj ≡ 0 → rj ≡ 0 → cell_of q dj dl rj rl ≤ 0
cell_zero q dj dl rj rl h k = rw (h, k) (omega arith)

pub cross-row-zero : (q : List ℤ) (d r : List ℕ) (i j : ℕ) → get_or d j 0 + get_or r j 0 ≡ 0 → cross_row q d r i j ≡ 0
cross-row-zero q d r i j h =
    let dj : get_or d j 0 ≡ 0 = omega arith in
    let rj : get_or r j 0 ≡ 0 = omega arith in
    let none : (l : ℕ) → row_cell q d r i j l ≤ 0 =
    λ l. cell_zero (nat_abs (form_of q i j l)) (get_or d j 0) (get_or d l 0) (get_or r j 0) (get_or r l 0) dj rj in
    omega (arith, upto_bound (row_cell q d r i j) 0 6 (λ l _. none l))

module _ (lines : List ℤ) (w : List ℕ) (hl : Small table_limit lines) (hw : Below 1048576 w) (i : ℕ) where
  pub slope-term_small : (j : ℕ) → nat_abs (row_of lines i j) * get_or w j 0 ≤ 432486301715922944
  slope-term_small j = mul-le-mul (hl.small (i * 6 + j)) (hw.below j)

  pub slope_small : slope_sum lines w i ≤ 2594917810295537664
  slope_small = upto_bound (λ j. nat_abs (row_of lines i j) * get_or w j 0) 432486301715922944 6 (λ j _. slope-term_small j)

-- ---- they are the definition's S
module _ (c a q k : List ℤ) (z : Zonotope) (centred : (j : ℕ) → j < 6 → at k j ≡ at z.centre j) (d r w : List ℕ)
    (hd : (j : ℕ) → j < 6 → get_or d j 0 ≡ term_sizes z j) (hr : (j : ℕ) → j < 6 → get_or r j 0 ≡ generator_sizes z j + radius z j)
    (hw : (j : ℕ) → j < 6 → get_or w j 0 ≡ radius z j) where
  pub remainder-from : (i : ℕ) → i < 6 → slope_sum (line_table a (both_table q) k) w i + cross_sum q d r i ≡ remainder (six c a q) z i
  unfolding remainder
  remainder-from i h =
      ap₂ ◌+◌
      (upto_cong 0 ◌+◌ _ _ 6 (λ j l. ap₂ (λ (x : ℤ) (n : ℕ). nat_abs x * n) (slope-number c a q k z centred i h j l) (hw j l)))
      (upto_cong 0 ◌+◌ _ _ 6 (λ j l. upto_cong 0 ◌+◌ _ _ 6 (λ m o.
      ap₂ (λ (x y : ℕ). nat_abs (form_of q i j m) * (x * get_or r m 0 + get_or r j 0 * y + get_or r j 0 * get_or r m 0)) (hd j l) (hd m o)
      ∙ ap₂ (λ (x y : ℕ). nat_abs (form_of q i j m) * (term_sizes z j * y + x * term_sizes z m + x * y)) (hr j l) (hr m o))))
