-- The laws of `Near`: errors that are made one after the other add up.
use Rattle.std.specs.Prelude.{◌≡◌}
use Rattle.std.proofs.Common.{sym, ◌∙◌, ap, subst}
use Rattle.rational.specs.Rational.{ℚ, ◌+ℚ◌, neg_ℚ, 0ℚ, ◌≤ℚ◌}
use Rattle.rational.proofs.Ring.{ring, +ℚ-zero, neg_ℚ-+}
use Rattle.rational.specs.Bounds.{Within}
use Rattle.rational.proofs.Bounds.{within-+, within-neg, within_mono, within-zero}
use Rattle.rational.specs.Near.{Near}

pub near_refl : (x : ℚ) → Near x x 0ℚ
near_refl x = record { off = 0ℚ; small = within-zero; is = sym (+ℚ-zero x) }

pub near_trans : {x v r w s : ℚ} → Near x v r → Near v w s → Near x w (r +ℚ s)
near_trans {x} {v} {r} {w} {s} n m = record {
  off = n.off +ℚ m.off;
  small = within-+ n.small m.small;
  is = n.is ∙ ap (◌+ℚ n.off) m.is ∙ simp ring;
}

pub near-+ : {x v r y w s : ℚ} → Near x v r → Near y w s → Near (x +ℚ y) (v +ℚ w) (r +ℚ s)
near-+ {x} {v} {r} {y} {w} {s} n m = record {
  off = n.off +ℚ m.off;
  small = within-+ n.small m.small;
  is = ap (◌+ℚ y) n.is ∙ ap ((v +ℚ n.off) +ℚ◌) m.is ∙ simp ring;
}

pub near_neg : {x v r : ℚ} → Near x v r → Near (neg_ℚ x) (neg_ℚ v) r
near_neg {x} {v} n = record { off = neg_ℚ n.off; small = within-neg n.small; is = ap neg_ℚ n.is ∙ neg_ℚ-+ v n.off }

pub near_mono : {x v r s : ℚ} → Near x v r → r ≤ℚ s → Near x v s
near_mono n h = record { off = n.off; small = within_mono n.small h; is = n.is }

-- The same bound in other words.
pub near_as : {x v v' r r' : ℚ} → Near x v r → v ≡ v' → r ≡ r' → Near x v' r'
near_as n e f = record { off = n.off; small = subst (Within n.off) f n.small; is = n.is ∙ ap (◌+ℚ n.off) e }
