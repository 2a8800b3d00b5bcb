-- The remainder of a step bounds what the independent part contributes.
use mathlib.Core.Path.{◌≡◌, refl, sym, ◌∙◌, ap, ap₂, fun_ext}
use Prim.Native.Nat.{ℕ, ◌+◌, ◌*◌, ◌<◌}
use lib.IntN.{pos, nat_abs, ◌+ℤ◌, ◌*ℤ◌}
use Rattle.whole.specs.Sum.{upto_ℕ}
use Rattle.rational.specs.Rational.{◌+ℚ◌, ◌*ℚ◌, ι}
use Rattle.rational.proofs.Ring.{ring, *ℚ-comm}
use Rattle.rational.proofs.Pinned.{ι-+, ι-*}
use Rattle.rational.specs.Bounds.{Within}
use Rattle.rational.proofs.Bounds.{within-+, within-*, within-ι}
use Rattle.rational.specs.Sum.{sum}
use Rattle.rational.proofs.Sum.{sum-+, sum_cong, sum-within}
use Rattle.model.specs.Set.{Zonotope, at, radius, term_sizes, independent_size}
use Rattle.model.specs.Step.{Step, linear_at, quadratic_at, slope, remainder}
use Rattle.model.specs.Points.{Vector}
use Rattle.model.specs.Motion.{places}
use Rattle.model.proofs.Forms.{◌⊕◌, dot_ℚ, bilinear_double, about-row}
use Rattle.model.proofs.WholeForms.{ι-+ℕ, ι-*ℕ, All-places, ι-upto, ι-upto_ℕ}
use Rattle.model.proofs.PartMaps.{coordinates}
use Rattle.model.proofs.Spans.{within_as}
use Rattle.model.proofs.Raw.{linear_row, form_of, bilinear_of, about_of}

-- a sum over places within a sum of naturals
pub within_upto : {f : Vector} (r : ℕ → ℕ) (n : ℕ) → ((j : ℕ) → j < n → Within (f j) (ι (pos (r j))))
    → Within (sum f (places n)) (ι (pos (upto_ℕ r n)))
within_upto r n h = within_as (sum-within (All-places n h)) refl (sym (ι-upto_ℕ r n))

module _ (p : Step) (s : Zonotope) (i : ℕ) where
  ι-slope : (j : ℕ) → ι (slope p s i j)
      ≡ linear_row p i j *ℚ ι (pos 4096) +ℚ dot_ℚ (places p.columns) (form_of p i j ⊕ (λ l. form_of p i l j)) (coordinates s.centre)
  unfolding dot_ℚ ◌⊕◌
  ι-slope j =
      ι-+ (pos 4096 *ℤ linear_at p i j) _
      ∙ ap₂ ◌+ℚ◌ (ι-* (pos 4096) (linear_at p i j) ∙ *ℚ-comm _ _)
      (ι-upto (λ l. (quadratic_at p i j l +ℤ quadratic_at p i l j) *ℤ at s.centre l) p.columns
      ∙ sum_cong _ _ (places p.columns) (λ l. ι-* (quadratic_at p i j l +ℤ quadratic_at p i l j) (at s.centre l)
      ∙ ap (◌*ℚ ι (at s.centre l)) (ι-+ (quadratic_at p i j l) (quadratic_at p i l j))))

  -- what is linear in the offsets
  linear-within : {δ : Vector} → ((j : ℕ) → j < p.columns → Within (δ j) (ι (pos (radius s j))))
      → Within (about_of p i (coordinates s.centre) δ) (ι (pos (upto_ℕ (λ j. nat_abs (slope p s i j) * radius s j) p.columns)))
  unfolding dot_ℚ
  linear-within {δ} d =
      within_as (within_upto (λ j. nat_abs (slope p s i j) * radius s j) p.columns (λ j h.
      within_as (within-* (within-ι (slope p s i j)) (d j h)) refl (sym (ι-*ℕ (nat_abs (slope p s i j)) (radius s j)))))
      (sym (about-row (places p.columns) (form_of p i) (ι (pos 4096)) (linear_row p i) (coordinates s.centre) δ
      ∙ ap (λ r. dot_ℚ (places p.columns) r δ) (fun_ext (λ j. sym (ι-slope j))))) refl

  -- the three forms, as one double sum
  crossed : (t g : Vector) → bilinear_of p i t g +ℚ bilinear_of p i g t +ℚ bilinear_of p i g g
      ≡ sum (λ j. sum (λ l. form_of p i j l *ℚ (t j *ℚ g l +ℚ g j *ℚ t l +ℚ g j *ℚ g l)) (places p.columns)) (places p.columns)
  crossed t g = simp (bilinear_double, sum-+, ring)

  -- what the independent part comes to with the terms and with itself
  cross-within : {t g : Vector} → ((j : ℕ) → j < p.columns → Within (t j) (ι (pos (term_sizes s j))))
      → ((j : ℕ) → j < p.columns → Within (g j) (ι (pos (independent_size s j))))
      → Within (bilinear_of p i t g +ℚ bilinear_of p i g t +ℚ bilinear_of p i g g)
      (ι (pos (upto_ℕ (λ j. upto_ℕ (λ l. nat_abs (quadratic_at p i j l)
      * (term_sizes s j * independent_size s l + independent_size s j * term_sizes s l
      + independent_size s j * independent_size s l)) p.columns)
      p.columns)))
  cross-within {t} {g} ht hg =
      within_as (within_upto _ p.columns (λ j hj. within_upto _ p.columns (λ l hl.
      within_as (within-* (within-ι (quadratic_at p i j l))
      (within-+ (within-+ (within-* (ht j hj) (hg l hl)) (within-* (hg j hj) (ht l hl))) (within-* (hg j hj) (hg l hl)))) refl
      (sym (product (nat_abs (quadratic_at p i j l)) (term_sizes s j) (term_sizes s l) (independent_size s j) (independent_size s l))))))
      (sym (crossed t g)) refl
    where
      product : (q a b x y : ℕ) → ι (pos (q * (a * y + x * b + x * y)))
          ≡ ι (pos q) *ℚ (ι (pos a) *ℚ ι (pos y) +ℚ ι (pos x) *ℚ ι (pos b) +ℚ ι (pos x) *ℚ ι (pos y))
      product q a b x y = simp (ι-*ℕ, ι-+ℕ)

  -- all that the independent part contributes: δ are the offsets, g the generators and the offsets, t the terms
  pub remainder-within : {t g δ : Vector} → ((j : ℕ) → j < p.columns → Within (t j) (ι (pos (term_sizes s j))))
      → ((j : ℕ) → j < p.columns → Within (g j) (ι (pos (independent_size s j))))
      → ((j : ℕ) → j < p.columns → Within (δ j) (ι (pos (radius s j))))
      → Within (about_of p i (coordinates s.centre) δ +ℚ (bilinear_of p i t g +ℚ bilinear_of p i g t +ℚ bilinear_of p i g g))
      (ι (pos (remainder p s i)))
  unfolding remainder
  remainder-within ht hg hd = within_as (within-+ (linear-within hd) (cross-within ht hg)) refl (sym (ι-+ℕ _ _))
