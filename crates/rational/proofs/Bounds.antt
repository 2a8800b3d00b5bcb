-- The laws of `Within`: how such bounds add, multiply and grow.
-- `use-within` puts x + u for r, and `by_gaps` makes a bound of two gaps: what is left is closed by `simp ring`.
use Rattle.std.specs.Prelude.{◌≡◌, refl, ℕ, suc, ◌+◌, ◌-◌, ◌≤◌, ℤ, pos, negsuc, nat_abs}
use Rattle.std.proofs.Common.{sym, ◌∙◌, ap, subst, arith}
use Rattle.rational.specs.Rational.{ℚ, ◌+ℚ◌, ◌*ℚ◌, neg_ℚ, ι, 0ℚ, 1ℚ, ½, NonNeg, ◌≤ℚ◌}
use Rattle.rational.proofs.Ring.{ring, +ℚ-assoc, +ℚ-comm, +ℚ-neg, zero-+ℚ, neg-+ℚ, *ℚ-one, minus_is, half_twice}
use Rattle.rational.proofs.Sign.{NonNeg-+, NonNeg-*, NonNeg-ι, NonNeg-½}
use Rattle.rational.proofs.Difference.{diff, diff_eq, diff_negsuc, ints}
use Rattle.rational.proofs.Order.{by_gap, use_gap, ≤ℚ-refl}
use Rattle.rational.specs.Bounds.{Within}

-- To show |x| ≤ r: r is x + u, and r + x is v, with u and v not negative.
pub by_gaps : {x r u v : ℚ} → NonNeg u → x +ℚ u ≡ r → NonNeg v → r +ℚ x ≡ v → Within x r
by_gaps {x} {r} {u} {v} nu e nv f = record {
  hi = by_gap nu e;
  lo = by_gap nv
      (sym (ap (neg_ℚ r +ℚ◌) f) ∙ sym (+ℚ-assoc (neg_ℚ r) r x) ∙ ap (◌+ℚ x) (neg-+ℚ r) ∙ zero-+ℚ x);
}

-- To use |x| ≤ r: show P at x + u, with u and x + u + x not negative, and it holds at r.
pub use-within : {x r : ℚ} (P : ℚ → Type 0) → Within x r → ((u : ℚ) → NonNeg u → NonNeg (x +ℚ u +ℚ x) → P (x +ℚ u)) → P r
use-within {x} {r} P w f = use_gap (λ r. neg_ℚ r ≤ℚ x → P r) w.hi (λ u nu l. f u nu (low u l)) w.lo
  where
    low : (u : ℚ) → neg_ℚ (x +ℚ u) ≤ℚ x → NonNeg (x +ℚ u +ℚ x)
    low u l = let r = x +ℚ u in use_gap (λ y. NonNeg (r +ℚ y)) l λ g ng.
        subst NonNeg (sym (sym (+ℚ-assoc r (neg_ℚ r) g) ∙ ap (◌+ℚ g) (+ℚ-neg r) ∙ zero-+ℚ g)) ng

-- ---- the operations

pub within-+ : {x r y s : ℚ} → Within x r → Within y s → Within (x +ℚ y) (r +ℚ s)
within-+ {x} {r} {y} {s} w v = use-within (λ r. Within (x +ℚ y) (r +ℚ s)) w λ u nu nl.
    use-within (λ s. Within (x +ℚ y) (x +ℚ u +ℚ s)) v λ t nt nm. by_gaps (NonNeg-+ nu nt) (simp ring) (NonNeg-+ nl nm) (simp ring)

-- r·s − x·y and r·s + x·y are half the sums of products of gaps.
pub within-* : {x r y s : ℚ} → Within x r → Within y s → Within (x *ℚ y) (r *ℚ s)
within-* {x} {r} {y} {s} w v = use-within (λ r. Within (x *ℚ y) (r *ℚ s)) w λ u nu nl.
    use-within (λ s. Within (x *ℚ y) ((x +ℚ u) *ℚ s)) v λ t nt nm.
    by_gaps (NonNeg-* NonNeg-½ (NonNeg-+ (NonNeg-* nu nm) (NonNeg-* nl nt))) (low u t)
    (NonNeg-* NonNeg-½ (NonNeg-+ (NonNeg-* nl nm) (NonNeg-* nu nt))) (high u t)
  where
    low : (u t : ℚ) → x *ℚ y +ℚ ½ *ℚ (u *ℚ (y +ℚ t +ℚ y) +ℚ (x +ℚ u +ℚ x) *ℚ t) ≡ (x +ℚ u) *ℚ (y +ℚ t)
    low u t = let A = u *ℚ y +ℚ u *ℚ t +ℚ x *ℚ t in
        let e : u *ℚ (y +ℚ t +ℚ y) +ℚ (x +ℚ u +ℚ x) *ℚ t ≡ A +ℚ A = simp ring in
        ap (λ z. x *ℚ y +ℚ ½ *ℚ z) e ∙ ap ((x *ℚ y) +ℚ◌) (half_twice A) ∙ simp ring

    high : (u t : ℚ) → (x +ℚ u) *ℚ (y +ℚ t) +ℚ x *ℚ y ≡ ½ *ℚ ((x +ℚ u +ℚ x) *ℚ (y +ℚ t +ℚ y) +ℚ u *ℚ t)
    high u t = let A = (x +ℚ u) *ℚ (y +ℚ t) +ℚ x *ℚ y in
        let e : A +ℚ A ≡ (x +ℚ u +ℚ x) *ℚ (y +ℚ t +ℚ y) +ℚ u *ℚ t = simp ring in
        sym (half_twice A) ∙ ap (½ *ℚ◌) e

pub within-neg : {x r : ℚ} → Within x r → Within (neg_ℚ x) r
within-neg {x} w = use-within (Within (neg_ℚ x)) w λ u nu nl. by_gaps nl (forth u) nu (back u)
  where
    forth : (u : ℚ) → neg_ℚ x +ℚ (x +ℚ u +ℚ x) ≡ x +ℚ u
    forth u = +ℚ-comm (neg_ℚ x) (x +ℚ u +ℚ x) ∙ minus_is (x +ℚ u +ℚ x) x (x +ℚ u) (+ℚ-comm x (x +ℚ u))

    back : (u : ℚ) → x +ℚ u +ℚ neg_ℚ x ≡ u
    back u = minus_is (x +ℚ u) x u refl

pub within_mono : {x r s : ℚ} → Within x r → r ≤ℚ s → Within x s
within_mono {x} w h = use_gap (Within x) h λ g ng. use-within (λ r. Within x (r +ℚ g)) w λ u nu nl.
    by_gaps (NonNeg-+ nu ng) (simp ring) (NonNeg-+ nl ng) (simp ring)

-- ---- what is within what

pub within-NonNeg : {x r : ℚ} → NonNeg x → x ≤ℚ r → Within x r
within-NonNeg {x} n h = use_gap (Within x) h λ g ng. by_gaps ng refl (NonNeg-+ (NonNeg-+ n ng) n) refl

pub within-zero : Within 0ℚ 0ℚ
within-zero = within-NonNeg (NonNeg-ι 0) (≤ℚ-refl 0ℚ)

pub within-one : Within 1ℚ 1ℚ
within-one = within-NonNeg (NonNeg-ι 1) (≤ℚ-refl 1ℚ)

-- A difference of two naturals that are h apart at most.
pub diff_within : (a b h : ℕ) → a ≤ h + b → b ≤ h + a → Within (diff a b) (ι (pos h))
diff_within a b h p q = by_gaps (NonNeg-ι (h + b - a)) (simp ints (diff_eq _ _ _ _ (omega arith)))
    (NonNeg-ι (h + a - b)) (simp ints (diff_eq _ _ _ _ (omega arith)))

-- A whole number is within its absolute value.
pub within-ι : (z : ℤ) → Within (ι z) (ι (pos (nat_abs z)))
within-ι (pos n) = within-NonNeg (NonNeg-ι n) (≤ℚ-refl (ι (pos n)))
within-ι (negsuc n) = rw diff_negsuc (diff_within 0 (suc n) (suc n) (omega arith) (omega arith))

-- x·y for y in [-1, 1].
pub within-scaled : {x r y : ℚ} → Within x r → Within y 1ℚ → Within (x *ℚ y) r
within-scaled {x} {r} {y} w v = subst (Within (x *ℚ y)) (*ℚ-one r) (within-* w v)
