-- Equations between whole numbers inside ℚ: each side becomes `diff a b`, a − b for two naturals, and the rest is arithmetic of naturals.
-- `simp ints (diff_eq _ _ _ _ (omega arith))` proves such an equation.
use Rattle.std.specs.Prelude.{◌≡◌, ℕ, suc, ◌+◌, ◌*◌, ℤ, pos, negsuc}
use Rattle.std.proofs.Common.{sym, ◌∙◌, ap, ap₂, arith}
use Rattle.std.proofs.Math.IntN.{sub_ℕ}
use Rattle.rational.specs.Fraction.{above, below}
use Rattle.rational.specs.Parts.{sub_parts}
use Rattle.rational.specs.Rational.{ℚ, ◌+ℚ◌, ◌*ℚ◌, neg_ℚ, ◌-ℚ◌, ι}
use Rattle.rational.proofs.Ring.{ring, +ℚ-assoc, +ℚ-zero, +ℚ-neg, zero-+ℚ, minus_is, neg_ℚ-+, neg_ℚ-neg_ℚ, *ℚ-neg_ℚ, neg-minus}
use Rattle.rational.proofs.Pinned.{ι-+, ι-*, ι-neg}

-- The whole number a − b.
pub diff : ℕ → ℕ → ℚ
diff a b = ι (pos a) -ℚ ι (pos b)

pub diff_eq : (a b c d : ℕ) → a + d ≡ c + b → diff a b ≡ diff c d
unfolding diff
diff_eq a b c d h = let A = ι (pos a) in let B = ι (pos b) in let C = ι (pos c) in let D = ι (pos d) in
    let e : B +ℚ C ≡ A +ℚ D = sym (ι-+ (pos b) (pos c)) ∙ ap (λ n. ι (pos n)) (omega arith) ∙ ι-+ (pos a) (pos d) in
    minus_is A B (C -ℚ D) (sym (+ℚ-assoc B C (neg_ℚ D)) ∙ ap (◌-ℚ D) e ∙ +ℚ-assoc A D (neg_ℚ D) ∙ ap (A +ℚ◌) (+ℚ-neg D) ∙ +ℚ-zero A)

pub diff_pos : (n : ℕ) → ι (pos n) ≡ diff n 0
unfolding diff
diff_pos n = sym (minus_is (ι (pos n)) (ι (pos 0)) (ι (pos n)) (zero-+ℚ (ι (pos n))))

pub diff_negsuc : (n : ℕ) → ι (negsuc n) ≡ diff 0 (suc n)
unfolding diff
diff_negsuc n = ι-neg (pos (suc n)) ∙ sym (zero-+ℚ (neg_ℚ (ι (pos (suc n)))))

pub diff_sub : (a b : ℕ) → ι (sub_ℕ a b) ≡ diff a b
diff_sub a b = parts (sub_ℕ a b) ∙ diff_eq (above (sub_ℕ a b)) (below (sub_ℕ a b)) a b (sub_parts a b)
  where
    parts : (z : ℤ) → ι z ≡ diff (above z) (below z)
    parts (pos n) = diff_pos n
    parts (negsuc n) = diff_negsuc n

pub diff-+ : (a b c d : ℕ) → diff a b +ℚ diff c d ≡ diff (a + c) (b + d)
unfolding diff
diff-+ a b c d = sym (ap₂ ◌-ℚ◌ (ι-+ (pos a) (pos c)) (ι-+ (pos b) (pos d)) ∙ simp (neg_ℚ-+, ring))

pub diff-* : (a b c d : ℕ) → diff a b *ℚ diff c d ≡ diff (a * c + b * d) (a * d + b * c)
unfolding diff
diff-* a b c d = sym (ap₂ ◌-ℚ◌ (two a c b d) (two a d b c) ∙ simp (neg_ℚ-+, *ℚ-neg_ℚ, neg_ℚ-neg_ℚ, ring))
  where
    two : (a b c d : ℕ) → ι (pos (a * b + c * d)) ≡ ι (pos a) *ℚ ι (pos b) +ℚ ι (pos c) *ℚ ι (pos d)
    two a b c d = ι-+ (pos (a * b)) (pos (c * d)) ∙ ap₂ ◌+ℚ◌ (ι-* (pos a) (pos b)) (ι-* (pos c) (pos d))

pub diff_neg : (a b : ℕ) → neg_ℚ (diff a b) ≡ diff b a
unfolding diff
diff_neg a b = neg-minus (ι (pos a)) (ι (pos b))

-- Whole numbers, their sums, products, negatives and differences, each as one `diff`.
pub ruleset ints = (diff_pos, diff_negsuc, diff-+, diff-*, diff_neg, diff_sub)
