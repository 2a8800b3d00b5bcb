-- A whole number by its parts above and below zero (`above`, `below` of `Fraction`): how +, ·, −, ≤ and a − b for naturals go by parts.
use Rattle.std.specs.Prelude.{◌≡◌, refl, ◌↔◌, Bool, true, false, not, cond, ℕ, zero, suc, ◌+◌, ◌*◌, ◌-◌, ◌≤◌, T, ltb, ℤ, pos, negsuc, neg_ℤ, ◌+ℤ◌, ◌*ℤ◌, ◌≤ℤ◌}
use Rattle.std.proofs.Common.{arith, leb→le, le→leb, ltb→lt, nltb→le}
use Rattle.std.proofs.Math.IntN.{sub_ℕ}
use Rattle.rational.specs.Fraction.{above, below}

cond_ind : (c : Bool) (x y : ℤ) (P : ℤ → Type 0) → (T c → P x) → (T (not c) → P y) → P (cond c x y)
cond_ind true x y P f g = f tt
cond_ind false x y P f g = g tt

-- a − b for naturals.
pub sub_parts : (a b : ℕ) → above (sub_ℕ a b) + b ≡ a + below (sub_ℕ a b)
sub_parts a b = cond_ind (ltb a b) (negsuc (b - suc a)) (pos (a - b)) (λ z. above z + b ≡ a + below z)
    (λ t. omega (arith, ltb→lt a b t)) (λ t. omega (arith, nltb→le a b t))

pub sum-parts : (a b : ℤ) → above (a +ℤ b) + (below a + below b) ≡ (above a + above b) + below (a +ℤ b)
sum-parts (pos a) (pos b) = omega arith
sum-parts (pos a) (negsuc b) = omega (arith, sub_parts a (suc b))
sum-parts (negsuc a) (pos b) = omega (arith, sub_parts b (suc a))
sum-parts (negsuc a) (negsuc b) = omega arith

pub neg-parts : (a : ℤ) → above (neg_ℤ a) + above a ≡ below a + below (neg_ℤ a)
neg-parts (pos zero) = refl
neg-parts (pos (suc a)) = omega arith
neg-parts (negsuc a) = omega arith

pub product-parts : (a b : ℤ)
    → above (a *ℤ b) + (above a * below b + below a * above b) ≡ (above a * above b + below a * below b) + below (a *ℤ b)
product-parts (pos a) (pos b) = omega arith
product-parts (pos a) (negsuc b) = omega (arith, neg-parts (pos (a * suc b)))
product-parts (negsuc a) (pos b) = omega (arith, neg-parts (pos (suc a * b)))
product-parts (negsuc a) (negsuc b) = omega arith

pub order-parts : (a b : ℤ) → (a ≤ℤ b) ↔ (below b + above a ≤ above b + below a)
order-parts (pos a) (pos b) = (λ h. omega (arith, leb→le a b h.le), λ h. record { le = le→leb a b (omega arith) })
order-parts (pos a) (negsuc b) = (λ h. absurd h.le, λ h. absurd (omega arith))
order-parts (negsuc a) (pos b) = (λ h. omega arith, λ h. record { le = tt })
order-parts (negsuc a) (negsuc b) = (λ h. omega (arith, leb→le b a h.le), λ h. record { le = le→leb b a (omega arith) })
