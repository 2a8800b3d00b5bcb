-- The rounding rule of a step. All numbers of a set are whole multiples of 1/4096 of the user's unit (document 01: grains). A step's raw
-- numbers are in 1/16,777,216 of that; each is rounded to a whole number. Callers use `round` and `inexact` by the laws below, never by
-- what stands behind them.
use Rattle.std.specs.Prelude.{◌≡◌, refl, Bool, true, false, cond, ℕ, zero, suc, ◌+◌, ◌*◌, ◌/◌, ◌%◌, ◌≤◌, T, eqb, ltb, ℤ, pos, negsuc, neg_ℤ, nat_abs, ◌+ℤ◌, ◌-ℤ◌, ◌*ℤ◌}
use Rattle.std.proofs.Common.{sym, ◌∙◌, ap, arith, ltb-true, ltb-false, eqb→eq}
use Rattle.std.proofs.Math.Nat.{div-add-mod}
use Rattle.whole.specs.AsNaturals.{as_ℕ}
use Rattle.whole.specs.Mirror.{mirrored, mirrored-neg, mirrored-size}

-- how many raw units make one unit in the last place, 4096²
abbrev pub scale : ℕ
scale = 16777216

-- n / scale to the nearest whole number, an exact half to the even neighbour: (n + 8,388,607) / 16,777,216, rounded down, but with 1 more
-- added first where n / scale, rounded down, is odd
abbrev pub nearest : ℕ → ℕ
nearest n = (n + 8388607 + n / scale % 2) / scale

-- v / scale to the nearest whole number, an exact half to the even neighbour, so that v and -v are rounded alike
unfoldable pub round : ℤ → ℤ
round v = mirrored nearest v

-- whether v is a multiple of the scale, so that rounding loses nothing
unfoldable pub exact : ℤ → Bool
exact v = eqb (nat_abs v % scale) 0

-- 1 for an inexact rounding, 0 for an exact one
unfoldable pub inexact : ℤ → ℕ
inexact v = cond (exact v) 0 1

-- ---- laws: rounding is within half a unit of the number, and even at exactly half a unit; no other whole number is both
pub round_near : (v : ℤ) → nat_abs (v -ℤ pos scale *ℤ round v) ≤ 8388608
unfolding round
round_near (pos n) = simp as_ℕ (omega arith)
round_near (negsuc n) = simp as_ℕ (omega arith)

pub round-even : (v : ℤ) → nat_abs (v -ℤ pos scale *ℤ round v) ≡ 8388608 → nat_abs (round v) % 2 ≡ 0
unfolding round
round-even v e =
    let n = nat_abs v in
    rw (mirrored-size nearest v) (of_size n (nearest n) refl (sizes v e) (ltb n (scale * nearest n)) refl)
  where
    after_odd : (q : ℕ) → q % 2 ≡ 1 → suc q % 2 ≡ 0
    after_odd q e = omega arith

    -- m is the even one of two neighbours of n
    of_size : (n m : ℕ) → m ≡ nearest n → nat_abs (pos n -ℤ pos scale *ℤ pos m) ≡ 8388608 → (b : Bool) → ltb n (scale * m) ≡ b → m % 2 ≡ 0
    of_size n m d e true t =
        let above : scale * m ≡ n + 8388608 = omega (arith, simp as_ℕ at e, ltb-true n (scale * m) t) in
        let next : suc (n / scale) ≡ m = omega arith in
        let odd : n / scale % 2 ≡ 1 = omega arith in
        ap (◌% 2) (sym next) ∙ after_odd (n / scale) odd
    of_size n m d e false t =
        let below : n ≡ scale * m + 8388608 = omega (arith, simp as_ℕ at e, ltb-false n (scale * m) t) in
        let same : n / scale ≡ m = omega arith in
        let even : n / scale % 2 ≡ 0 = omega arith in
        ap (◌% 2) (sym same) ∙ even

    sizes : (v : ℤ) → nat_abs (v -ℤ pos scale *ℤ mirrored nearest v) ≡ 8388608
        → nat_abs (pos (nat_abs v) -ℤ pos scale *ℤ pos (nearest (nat_abs v))) ≡ 8388608
    sizes (pos n) e = e
    sizes (negsuc n) e = simp as_ℕ (omega (arith, simp as_ℕ at e))

-- of two neighbours one is odd
pub neighbours : (a : ℤ) → nat_abs a % 2 + nat_abs (a +ℤ pos 1) % 2 ≡ 1
neighbours (pos n) = omega arith
neighbours (negsuc zero) = refl
neighbours (negsuc (suc n)) =
    let size : nat_abs (negsuc (suc n) +ℤ pos 1) ≡ suc n = simp as_ℕ (omega arith) in
    ap (λ k. suc (suc n) % 2 + k % 2) size ∙ omega arith

-- a number and its negative are rounded alike
pub round-neg : (v : ℤ) → round (neg_ℤ v) ≡ neg_ℤ (round v)
unfolding round
round-neg v = mirrored-neg nearest refl v

-- ---- rounding is exact where the scale divides the number
again : (n : ℕ) → nearest (scale * n) ≡ n
again n = let q : scale * n / scale ≡ n = omega arith in omega arith

pub round_multiple : (q : ℤ) → round (pos scale *ℤ q) ≡ q
unfolding round
round_multiple (pos n) = ap pos (again n)
round_multiple (negsuc n) = mirrored-neg nearest refl (pos (scale * suc n)) ∙ ap (λ k. neg_ℤ (pos k)) (again (suc n))

-- the number that v is a multiple by
multiple : (v : ℤ) → nat_abs v % scale ≡ 0 → (q : ℤ) × (v ≡ pos scale *ℤ q)
multiple (pos a) h = (pos (a / scale), simp as_ℕ (omega (arith, div-add-mod a scale)))
multiple (negsuc a) h = (neg_ℤ (pos (suc a / scale)), simp as_ℕ (omega (arith, div-add-mod (suc a) scale)))

pub round_exact : (v : ℤ) → T (exact v) → pos scale *ℤ round v ≡ v
unfolding exact
round_exact v t =
    let m = multiple v (eqb→eq (nat_abs v % scale) 0 t) in
    ap (λ x. pos scale *ℤ round x) m.1 ∙ ap (pos scale *ℤ◌) (round_multiple m.0) ∙ sym m.1

pub exact-zero : T (exact (pos 0))
unfolding exact
exact-zero = tt

-- what rounding loses, by the count of inexact roundings
pub round_loses : (v : ℤ) → nat_abs (v -ℤ pos scale *ℤ round v) ≤ 8388608 * inexact v
unfolding inexact
round_loses v = go (exact v) (round_exact v)
  where
    go : (b : Bool) → (T b → pos scale *ℤ round v ≡ v) → nat_abs (v -ℤ pos scale *ℤ round v) ≤ 8388608 * cond b 0 1
    go true e = simp as_ℕ (omega (arith, simp as_ℕ at (e tt)))
    go false e = round_near v
