-- No other whole number is what rounding gives.
use Rattle.std.specs.Prelude.{◌≡◌, refl, Bool, true, false, ℕ, ◌%◌, ◌≤◌, ℤ, pos, nat_abs, ◌+ℤ◌, ◌-ℤ◌, ◌*ℤ◌, ◌<ℤ◌}
use Rattle.std.proofs.Common.{sym, ◌∙◌, ap, arith}
use Rattle.std.specs.Int.Signed.{lt_z}
use Rattle.whole.specs.AsNaturals.{as_ℕ, lt_z_true}
use Rattle.whole.specs.Round.{scale, round, round_near, round-even, neighbours}

-- how far scale times q is from v
abbrev off : ℤ → ℤ → ℕ
off v q = nat_abs (v -ℤ pos scale *ℤ q)

pub round_unique : (v q : ℤ) → nat_abs (v -ℤ pos scale *ℤ q) ≤ 8388608
    → (nat_abs (v -ℤ pos scale *ℤ q) ≡ 8388608 → nat_abs q % 2 ≡ 0) → q ≡ round v
round_unique v q near even = by_order (round v) (round_near v) (round-even v) (lt_z q (round v)) refl (lt_z (round v) q) refl
  where
    -- of two such numbers none is less than the other
    no_less : (a b : ℤ) → off v a ≤ 8388608 → off v b ≤ 8388608
        → (off v a ≡ 8388608 → nat_abs a % 2 ≡ 0) → (off v b ≡ 8388608 → nat_abs b % 2 ≡ 0) → a <ℤ b → ⊥
    no_less a b m n e f l =
        let next : b ≡ a +ℤ pos 1 = simp as_ℕ (omega (arith, simp as_ℕ at m, simp as_ℕ at n, simp as_ℕ at l)) in
        let here : off v a ≡ 8388608 = simp as_ℕ (omega (arith, simp as_ℕ at m, simp as_ℕ at n, simp as_ℕ at next)) in
        let there : off v b ≡ 8388608 = simp as_ℕ (omega (arith, simp as_ℕ at m, simp as_ℕ at n, simp as_ℕ at next)) in
        omega (arith, neighbours a, e here, sym (ap (λ z. nat_abs z % 2) next) ∙ f there)

    by_order : (p : ℤ) → off v p ≤ 8388608 → (off v p ≡ 8388608 → nat_abs p % 2 ≡ 0)
        → (a : Bool) → lt_z q p ≡ a → (b : Bool) → lt_z p q ≡ b → q ≡ p
    by_order p n e true s b t = absurd (no_less q p near n even e ((lt_z_true q p).0 s))
    by_order p n e false s true t = absurd (no_less p q n near e even ((lt_z_true p q).0 t))
    by_order p n e false s false t = simp as_ℕ (omega (arith, simp as_ℕ at s, simp as_ℕ at t))
