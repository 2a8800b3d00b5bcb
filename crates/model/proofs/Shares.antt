-- A number near v + w, within m + n, is a number near v, within m, plus one near w, within n: the offset is shared out in proportion.
use mathlib.Core.Path.{◌≡◌, refl, sym, ◌∙◌, ap, ap₂, subst}
use Prim.Native.Nat.{ℕ, zero, suc, ◌+◌, ◌<◌, ◌≤◌}
use native.Mathlib.Omega.{arith}
use lib.IntN.{pos}
use Rattle.rational.specs.Rational.{ℚ, ◌+ℚ◌, ◌*ℚ◌, ◌-ℚ◌, ι, ◌over◌, 0ℚ, 1ℚ, ◌≤ℚ◌}
use Rattle.rational.proofs.Ring.{ring, +ℚ-zero, *ℚ-one, *ℚ-+ℚ, zero-*ℚ, neg_ℚ-is, minus_is}
use Rattle.rational.proofs.Pinned.{ι-+, over-*, *ℚ-cancel}
use Rattle.rational.proofs.Sign.{NonNeg-over}
use Rattle.rational.proofs.Order.{≤ℚ-refl, ≤ℚ-antisym, gap_eq}
use Rattle.rational.specs.Bounds.{Within}
use Rattle.rational.proofs.Bounds.{within-*, within-NonNeg}
use Rattle.rational.specs.Near.{Near}

-- ---- the share k of a whole t
abbrev share : ℕ → ℕ → ℚ → ℚ
share k t d = d *ℚ (pos k over t)

whole-share : (k t : ℕ) → k ≤ t → ι (pos t) *ℚ (pos k over t) ≡ ι (pos k)
whole-share k zero h = zero-*ℚ (pos k over 0) ∙ ap (λ n. ι (pos n)) (omega arith)
whole-share k (suc t) h = over-* (pos k) (suc t) (omega arith)

share-within : (k t : ℕ) {d : ℚ} → k ≤ t → Within d (ι (pos t)) → Within (share k t d) (ι (pos k))
share-within k t {d} h w = let q = pos k over t in
    subst (Within (d *ℚ q)) (whole-share k t h) (within-* w (within-NonNeg (NonNeg-over k t) (≤ℚ-refl q)))

within-nothing : {d : ℚ} → Within d 0ℚ → 0ℚ ≡ d
within-nothing {d} w = ≤ℚ-antisym (subst (◌≤ℚ d) (neg_ℚ-is 0ℚ 0ℚ (+ℚ-zero 0ℚ)) w.lo) w.hi

shares_one : (m n : ℕ) → 0 < m + n → (pos m over (m + n)) +ℚ (pos n over (m + n)) ≡ 1ℚ
shares_one m n h = let t = m + n in let a = pos m over t in let b = pos n over t in
    *ℚ-cancel t (a +ℚ b) 1ℚ h
    (*ℚ-+ℚ (ι (pos t)) a b ∙ ap₂ ◌+ℚ◌ (over-* (pos m) t h) (over-* (pos n) t h) ∙ sym (ι-+ (pos m) (pos n)) ∙ sym (*ℚ-one (ι (pos t))))

shares_add : (m n : ℕ) {d : ℚ} → Within d (ι (pos (m + n))) → share m (m + n) d +ℚ share n (m + n) d ≡ d
shares_add m n {d} w = let a = pos m over (m + n) in let b = pos n over (m + n) in
    go (m + n) w (λ z. subst (λ x. x *ℚ a +ℚ x *ℚ b ≡ x) z (ap₂ ◌+ℚ◌ (zero-*ℚ a) (zero-*ℚ b) ∙ +ℚ-zero 0ℚ))
    (λ h. sym (*ℚ-+ℚ d a b) ∙ ap (d *ℚ◌) (shares_one m n h) ∙ *ℚ-one d)
  where
    go : {P : Type 0} (t : ℕ) → Within d (ι (pos t)) → (0ℚ ≡ d → P) → (0 < t → P) → P
    go zero w f g = f (within-nothing w)
    go (suc t) w f g = g (omega arith)

-- ---- z near v + w
module _ (m n : ℕ) (v w z : ℚ) where
  -- what is near v, and what is near w
  unfoldable pub first_share : ℚ
  first_share = v +ℚ share m (m + n) (z -ℚ (v +ℚ w))

  unfoldable pub second_share : ℚ
  second_share = w +ℚ share n (m + n) (z -ℚ (v +ℚ w))

  off-within : Near z (v +ℚ w) (ι (pos (m + n))) → Within (z -ℚ (v +ℚ w)) (ι (pos (m + n)))
  off-within k = subst (λ d. Within d (ι (pos (m + n)))) (sym (minus_is z (v +ℚ w) k.off (sym k.is))) k.small

  pub first_near : Near z (v +ℚ w) (ι (pos (m + n))) → Near first_share v (ι (pos m))
  unfolding first_share
  first_near k =
      record { off = share m (m + n) (z -ℚ (v +ℚ w)); small = share-within m (m + n) (omega arith) (off-within k); is = refl }

  pub second_near : Near z (v +ℚ w) (ι (pos (m + n))) → Near second_share w (ι (pos n))
  unfolding second_share
  second_near k =
      record { off = share n (m + n) (z -ℚ (v +ℚ w)); small = share-within n (m + n) (omega arith) (off-within k); is = refl }

  pub shares_sum : Near z (v +ℚ w) (ι (pos (m + n))) → z ≡ first_share +ℚ second_share
  unfolding first_share second_share
  shares_sum k = let d = z -ℚ (v +ℚ w) in
      sym (regroup v w (share m (m + n) d) (share n (m + n) d) ∙ ap ((v +ℚ w) +ℚ◌) (shares_add m n (off-within k)) ∙ gap_eq (v +ℚ w) z)
    where
      regroup : (a b c d : ℚ) → (a +ℚ c) +ℚ (b +ℚ d) ≡ (a +ℚ b) +ℚ (c +ℚ d)
      regroup a b c d = simp ring
