-- The laws of powers, and the products of numbers in [-1, 1] and in [0, 1]: a power of a number in [-1, 1] stays there, and an even power is
-- in [0, 1].
use Rattle.std.specs.Prelude.{◌≡◌, Bool, ℕ, zero, suc, ◌+◌, ◌/◌, ◌%◌, T, eqb}
use Rattle.std.proofs.Common.{sym, ◌∙◌, ap, subst, arith, zero-add, suc-add, eqb→eq}
use Rattle.rational.specs.Rational.{ℚ, ◌*ℚ◌, 1ℚ, NonNeg, ◌≤ℚ◌}
use Rattle.rational.proofs.Ring.{*ℚ-assoc, one-*ℚ}
use Rattle.rational.proofs.Sign.{NonNeg-*, NonNeg-square}
use Rattle.rational.specs.Bounds.{Within}
use Rattle.rational.proofs.Bounds.{within-one, within-scaled, within-NonNeg}
use Rattle.rational.specs.Power.{power, even, InUnit}

pub power-+ : (a : ℚ) (m n : ℕ) → power a (m + n) ≡ power a m *ℚ power a n
unfolding power
power-+ a zero n = ap (power a) (zero-add n) ∙ sym (one-*ℚ (power a n))
power-+ a (suc m) n = ap (power a) (suc-add m n) ∙ ap (a *ℚ◌) (power-+ a m n) ∙ sym (*ℚ-assoc a (power a m) (power a n))

pub power-within : {a : ℚ} → Within a 1ℚ → (n : ℕ) → Within (power a n) 1ℚ
unfolding power
power-within w zero = within-one
power-within w (suc n) = within-scaled w (power-within w n)

pub power-even : (a : ℚ) (e : ℕ) → T (even e) → NonNeg (power a e)
unfolding even
power-even a e t = let h : e ≡ e / 2 + e / 2 = omega (arith, eqb→eq) in
    subst (λ n. NonNeg (power a n)) (sym h) (subst NonNeg (sym (power-+ a (e / 2) (e / 2))) (NonNeg-square (power a (e / 2))))

pub InUnit-power : {a : ℚ} → Within a 1ℚ → (e : ℕ) → T (even e) → InUnit (power a e)
InUnit-power {a} w e t = record { low = power-even a e t; high = (power-within w e).hi }

pub InUnit-within : {x : ℚ} → InUnit x → Within x 1ℚ
InUnit-within u = within-NonNeg u.low u.high

pub InUnit-* : {x y : ℚ} → InUnit x → InUnit y → InUnit (x *ℚ y)
InUnit-* u v = record { low = NonNeg-* u.low v.low; high = (within-scaled (InUnit-within u) (InUnit-within v)).hi }
