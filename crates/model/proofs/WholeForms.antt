-- ι carries sums over places, and so linear and bilinear forms, from whole numbers over to ℚ.
use mathlib.Core.Path.{◌≡◌, refl, sym, ◌∙◌, ap, ap₂, fun_ext}
use mathlib.Core.List.{[], ◌∷◌}
use Prim.Native.Nat.{ℕ, zero, suc, ◌+◌, ◌*◌, ◌<◌}
use lib.IntN.{ℤ, pos, ◌*ℤ◌}
use Rattle.whole.specs.Sum.{upto_by, upto_ℕ, upto_ℤ}
use Rattle.whole.specs.Tab.{tab, tab_end}
use Rattle.rational.specs.Rational.{ℚ, ◌+ℚ◌, ◌*ℚ◌, ι, 0ℚ}
use Rattle.rational.proofs.Ring.{+ℚ-zero}
use Rattle.rational.proofs.Pinned.{ι-+, ι-*}
use Rattle.rational.specs.Sum.{sum, All}
use Rattle.rational.proofs.Sum.{sum-++, sum_cong}
use Rattle.model.specs.Step.{dot, bilinear}
use Rattle.model.specs.Motion.{places}
use Rattle.model.proofs.Tests.{all-tab}
use Rattle.model.proofs.Forms.{dot_ℚ, row, bilinear_ℚ}

-- ---- sums and products of naturals
pub ι-+ℕ : (m n : ℕ) → ι (pos (m + n)) ≡ ι (pos m) +ℚ ι (pos n)
ι-+ℕ m n = ι-+ (pos m) (pos n)

pub ι-*ℕ : (m n : ℕ) → ι (pos (m * n)) ≡ ι (pos m) *ℚ ι (pos n)
ι-*ℕ m n = ι-* (pos m) (pos n)

-- ---- the places 0 .. n - 1
pub All-places : {P : ℕ → Type 0} (n : ℕ) → ((j : ℕ) → j < n → P j) → All P (places n)
All-places n h = all-tab n (λ j. j) h

-- a sum grown at its end, by what keeps zero and sums
upto_sum : {M : Type 0} {z : M} {add : M → M → M} (h : M → ℚ) → h z ≡ 0ℚ → ((a b : M) → h (add a b) ≡ h a +ℚ h b)
    → (f : ℕ → M) (n : ℕ) → h (upto_by z add f n) ≡ sum (λ j. h (f j)) (places n)
unfolding upto_by sum tab
upto_sum h e p f zero = e
upto_sum {z = z} {add = add} h e p f (suc n) =
    p (upto_by z add f n) (f n) ∙ ap₂ ◌+ℚ◌ (upto_sum h e p f n) (sym (+ℚ-zero (h (f n))))
    ∙ sym (ap (sum (λ j. h (f j))) (tab_end n (λ j. j)) ∙ sum-++ (λ j. h (f j)) (places n) (n ∷ []))

pub ι-upto : (f : ℕ → ℤ) (n : ℕ) → ι (upto_ℤ f n) ≡ sum (λ j. ι (f j)) (places n)
ι-upto f n = upto_sum ι refl ι-+ f n

pub ι-upto_ℕ : (f : ℕ → ℕ) (n : ℕ) → ι (pos (upto_ℕ f n)) ≡ sum (λ j. ι (pos (f j))) (places n)
ι-upto_ℕ f n = upto_sum (λ m. ι (pos m)) refl ι-+ℕ f n

-- ---- forms
pub ι-dot : (n : ℕ) (a x : ℕ → ℤ) → ι (dot n a x) ≡ dot_ℚ (places n) (λ j. ι (a j)) (λ j. ι (x j))
unfolding dot dot_ℚ
ι-dot n a x = ι-upto (λ j. a j *ℤ x j) n ∙ sum_cong _ _ (places n) (λ j. ι-* (a j) (x j))

pub ι-bilinear : (n : ℕ) (q : ℕ → ℕ → ℤ) (u v : ℕ → ℤ)
    → ι (bilinear n q u v) ≡ bilinear_ℚ (places n) (λ j l. ι (q j l)) (λ j. ι (u j)) (λ j. ι (v j))
unfolding bilinear bilinear_ℚ row
ι-bilinear n q u v = ι-dot n u (λ j. dot n (q j) v) ∙ ap (dot_ℚ (places n) (λ j. ι (u j))) (fun_ext (λ j. ι-dot n (q j) v))
