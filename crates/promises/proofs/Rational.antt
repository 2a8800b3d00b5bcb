-- Promised of ℚ: what pins it down.
use mathlib.Core.Path.{◌≡◌}
use mathlib.Core.Logic.{◌↔◌}
use Prim.Native.Nat.{ℕ, ◌<◌}
use lib.IntN.{ℤ, pos, ◌*ℤ◌, ◌+ℤ◌, neg_ℤ}
use lib.Signed.{◌≤ℤ◌, ◌<ℤ◌}
use Rattle.rational.specs.Rational.{ℚ, ◌over◌, ι, ◌*ℚ◌, ◌+ℚ◌, neg_ℚ, ◌≤ℚ◌, ◌<ℚ◌}
use Rattle.rational.proofs.Pinned as Pinned

-- Every rational is a whole number over a positive denominator.
pub every : (a : ℚ) → ∥ ((z : ℤ) × (d : ℕ) × (0 < d) × (a ≡ z over d)) ∥₁
every = Pinned.every

-- d times z over d is z.
pub over-* : (z : ℤ) (d : ℕ) → 0 < d → ι (pos d) *ℚ (z over d) ≡ ι z
over-* = Pinned.over-*

-- z over d is y over e exactly where the cross products agree.
pub over_eq : (z : ℤ) (d : ℕ) (y : ℤ) (e : ℕ) → 0 < d → 0 < e → (z over d ≡ y over e) ↔ (z *ℤ pos e ≡ y *ℤ pos d)
over_eq = Pinned.over_eq

-- The whole numbers sit in ℚ with their sum.
pub ι-+ : (a b : ℤ) → ι (a +ℤ b) ≡ ι a +ℚ ι b
ι-+ = Pinned.ι-+

-- They have their product there.
pub ι-* : (a b : ℤ) → ι (a *ℤ b) ≡ ι a *ℚ ι b
ι-* = Pinned.ι-*

-- They have their negative there.
pub ι-neg : (a : ℤ) → ι (neg_ℤ a) ≡ neg_ℚ (ι a)
ι-neg = Pinned.ι-neg

-- They have their order there, both ways.
pub ι-≤ : (a b : ℤ) → (ι a ≤ℚ ι b) ↔ (a ≤ℤ b)
ι-≤ = Pinned.ι-≤

-- The strict order too.
pub ι-< : (a b : ℤ) → (ι a <ℚ ι b) ↔ (a <ℤ b)
ι-< = Pinned.ι-<

-- No two become one.
pub ι-inj : (a b : ℤ) → ι a ≡ ι b → a ≡ b
ι-inj = Pinned.ι-inj
