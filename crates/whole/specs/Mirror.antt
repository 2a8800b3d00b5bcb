-- A rule for sizes carried to both signs, so that a number and its negative fare alike.
use Rattle.std.specs.Prelude.{◌≡◌, refl, ℕ, zero, suc, ℤ, pos, negsuc, neg_ℤ, nat_abs}
use Rattle.std.proofs.Common.{sym, ◌∙◌, ap}

-- what f gives for |z|, with the sign of z
abbrev pub mirrored : (ℕ → ℕ) → ℤ → ℤ
mirrored f (pos n) = pos (f n)
mirrored f (negsuc n) = neg_ℤ (pos (f (suc n)))

-- ---- laws
neg-neg : (n : ℕ) → neg_ℤ (neg_ℤ (pos n)) ≡ pos n
neg-neg zero = refl
neg-neg (suc n) = refl

pub mirrored-neg : (f : ℕ → ℕ) → f 0 ≡ 0 → (z : ℤ) → mirrored f (neg_ℤ z) ≡ neg_ℤ (mirrored f z)
mirrored-neg f e (pos zero) = ap pos e ∙ sym (ap (λ n. neg_ℤ (pos n)) e)
mirrored-neg f e (pos (suc n)) = refl
mirrored-neg f e (negsuc n) = sym (neg-neg (f (suc n)))

pub mirrored-size : (f : ℕ → ℕ) (z : ℤ) → nat_abs (mirrored f z) ≡ f (nat_abs z)
mirrored-size f (pos n) = refl
mirrored-size f (negsuc n) = size (f (suc n))
  where
    size : (k : ℕ) → nat_abs (neg_ℤ (pos k)) ≡ k
    size zero = refl
    size (suc k) = refl
