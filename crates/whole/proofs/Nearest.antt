-- The nearest whole number as the code finds it: from the number below v / scale and the rest, one more where the rest is more than half a
-- unit, or half a unit above an odd number.
use mathlib.Core.Path.{◌≡◌, refl, ◌∙◌, ap, ap₂}
use Prim.Native.Nat.{ℕ, zero, suc, ◌+◌, ◌/◌, ◌%◌, ◌^◌, ◌<◌, ◌≤◌}
use native.Mathlib.Omega.{arith}
use lib.Dec.{lit<}
use lib.IntN.{ℤ, pos, nat_abs, ◌+ℤ◌, ◌-ℤ◌, ◌*ℤ◌}
use lib.Signed.{◌≤ℤ◌, ◌<ℤ◌, quot_z}
use mir.Syntax.{w64}
use mir.Val.{SFits}
use mir.Facts.{to_z-of_z}
use Rattle.whole.proofs.Stored.{stored}
use Rattle.whole.specs.AsNaturals.{as_ℕ}
use Rattle.whole.specs.Floor.{floor, floor_le, floor_lt}
use Rattle.whole.specs.Round.{scale, round, neighbours, round_near}
use Rattle.whole.proofs.Unique.{round_unique}

+ℤ-zero : (b : ℤ) → b +ℤ pos 0 ≡ b
+ℤ-zero b = simp as_ℕ (omega arith)

small_fits : (n : ℕ) → n < 2 ^ 63 → SFits w64 (pos n)
small_fits n h = simp as_ℕ (omega arith)

-- the number below and the rest
module _ (v b : ℤ) (low : (pos scale *ℤ b) ≤ℤ v) (high : v <ℤ (pos scale *ℤ (b +ℤ pos 1))) where
  product_fits : SFits w64 v → SFits w64 (b *ℤ pos 16777216)
  product_fits f = simp as_ℕ (omega (arith, simp as_ℕ at low, simp as_ℕ at high, simp as_ℕ at f))

  abbrev rest : ℕ
  rest = nat_abs (v -ℤ b *ℤ pos 16777216)

  rest_is : v -ℤ b *ℤ pos 16777216 ≡ pos rest
  rest_is = simp as_ℕ (omega (arith, simp as_ℕ at low))

  rest-short : rest < scale
  rest-short = simp as_ℕ (omega (arith, simp as_ℕ at low, simp as_ℕ at high))

  -- one more where the rest is more than half a unit, or half a unit above an odd number
  abbrev carry : ℕ
  carry = (rest + 8388607 + nat_abs b % 2) / scale

  pub carried : b +ℤ pos carry ≡ round v
  carried =
      let few : nat_abs b % 2 ≤ 1 = omega arith in
      round_unique v (b +ℤ pos carry) (near rest (nat_abs b % 2) carry rest_is rest-short few refl)
      (tie rest carry rest_is rest-short refl)
    where
      near : (n o t : ℕ) → v -ℤ b *ℤ pos 16777216 ≡ pos n → n < scale → o ≤ 1 → t ≡ (n + 8388607 + o) / scale
          → nat_abs (v -ℤ pos scale *ℤ (b +ℤ pos t)) ≤ 8388608
      near n o t is short few e = simp as_ℕ (omega (arith, simp as_ℕ at is))

      tie : (n t : ℕ) → v -ℤ b *ℤ pos 16777216 ≡ pos n → n < scale → t ≡ (n + 8388607 + nat_abs b % 2) / scale
          → nat_abs (v -ℤ pos scale *ℤ (b +ℤ pos t)) ≡ 8388608 → nat_abs (b +ℤ pos t) % 2 ≡ 0
      tie n zero is short e h =
          let half : n ≡ 8388608 = omega (arith, simp as_ℕ at is, simp as_ℕ at h) in
          let even : nat_abs b % 2 ≡ 0 = omega arith in
          ap (λ z. nat_abs z % 2) (+ℤ-zero b) ∙ even
      tie n (suc zero) is short e h =
          let half : n ≡ 8388608 = omega (arith, simp as_ℕ at is, simp as_ℕ at h) in
          let odd : nat_abs b % 2 ≡ 1 = omega arith in
          omega (arith, neighbours b)
      tie n (suc (suc t)) is short e h = absurd (omega arith)

-- ---- as the code stores it: x is the number below
module _ (v x : ℤ) (f : SFits w64 v) (below : stored x ≡ floor v scale) where
  b : ℤ
  b = floor v scale

  low : (pos scale *ℤ b) ≤ℤ v
  unfolding b
  low = floor_le v scale (lit< tt)

  high : v <ℤ (pos scale *ℤ (b +ℤ pos 1))
  unfolding b
  high = floor_lt v scale (lit< tt)

  times_fits : SFits w64 (stored x *ℤ pos 16777216)
  unfolding b
  times_fits = rw below (product_fits v b low high f)

  times_is : stored (stored x *ℤ pos 16777216) ≡ b *ℤ pos 16777216
  unfolding b
  times_is = to_z-of_z times_fits ∙ ap (◌*ℤ pos 16777216) below

  abbrev left : ℤ
  left = stored v -ℤ stored (stored x *ℤ pos 16777216)

  left_is : left ≡ pos (rest v b low high)
  left_is = ap₂ ◌-ℤ◌ (to_z-of_z f) times_is ∙ rest_is v b low high

  left_fits : SFits w64 left
  left_fits = rw left_is (small_fits (rest v b low high) (omega (arith, rest-short v b low high)))

  -- the rest with half a unit, less 1, and with 1 more above an odd number
  abbrev most : ℤ
  most = stored left +ℤ pos 8388607

  most_is : most ≡ pos (rest v b low high + 8388607)
  most_is = ap (◌+ℤ pos 8388607) (to_z-of_z left_fits ∙ left_is)

  most_fits : SFits w64 most
  most_fits = rw most_is (small_fits (rest v b low high + 8388607) (omega (arith, rest-short v b low high)))

  -- o is 1 where the number below is odd, else 0
  module _ (o : ℤ) (parity : stored o ≡ pos (nat_abs (floor v scale) % 2)) where
    abbrev all : ℤ
    all = stored most +ℤ stored o

    all_is : all ≡ pos (rest v b low high + 8388607 + nat_abs b % 2)
    unfolding b
    all_is = ap₂ ◌+ℤ◌ (to_z-of_z most_fits ∙ most_is) parity

    all_fits : SFits w64 all
    all_fits = rw all_is (small_fits (rest v b low high + 8388607 + nat_abs b % 2) (omega (arith, rest-short v b low high)))

    more_is : quot_z (stored all) (pos 16777216) ≡ pos (carry v b low high)
    more_is = ap (λ z. quot_z z (pos 16777216)) (to_z-of_z all_fits ∙ all_is)

    more_fits : SFits w64 (quot_z (stored all) (pos 16777216))
    more_fits = rw more_is (small_fits (carry v b low high) (omega (arith, rest-short v b low high)))

    sum_is : stored x +ℤ stored (quot_z (stored all) (pos 16777216)) ≡ round v
    unfolding b
    sum_is = ap₂ ◌+ℤ◌ below (to_z-of_z more_fits ∙ more_is) ∙ carried v b low high

    pub sum_fits : SFits w64 (stored x +ℤ stored (quot_z (stored all) (pos 16777216)))
    sum_fits = rw sum_is (by_size (round v) (round_near v))
      where
        by_size : (r : ℤ) → nat_abs (v -ℤ pos scale *ℤ r) ≤ 8388608 → SFits w64 r
        by_size r n = simp as_ℕ (omega (arith, simp as_ℕ at n, simp as_ℕ at f))

    pub rounded : stored (stored x +ℤ stored (quot_z (stored all) (pos 16777216))) ≡ round v
    rounded = to_z-of_z sum_fits ∙ sum_is
