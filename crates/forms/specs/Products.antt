-- A loop that sums six products in a signed 64-bit local: one law for each of its needs.
use Rattle.std.specs.Prelude.{◌≡◌, ℕ, ◌+◌, ◌*◌, ◌^◌, ◌<◌, ◌≤◌, T, ltb, ℤ, nat_abs, ◌+ℤ◌, ◌*ℤ◌}
use Rattle.std.proofs.Common.{refl, sym, ◌∙◌, ap, ap₂, mul-le-mul_right, arith, ltb→lt, of_z, to_z}
use Rattle.std.specs.Int.{w64}
use Rattle.whole.specs.Fits.{fits_abs, held}
use Rattle.model.specs.Step.{dot}
use Rattle.forms.specs.Dot.{Vector, dot-step, dot_small, dot_room}

-- the factors are at most A and B, and six products fit
module _ (p u : Vector) (A B : ℕ) (f : (j : ℕ) → nat_abs (p j) ≤ A) (g : (j : ℕ) → nat_abs (u j) ≤ B)
    (fits : T (ltb (6 * (A * B)) (2 ^ 63))) where
  pub reads : {s : ℕ} (k : ℕ) → k ≤ 6 → s ≡ of_z w64 (dot k p u) → to_z w64 s ≡ dot k p u
  reads k h e =
      held {w = w64} (dot k p u) e
      (fits_abs (omega (arith, dot_small p u A B f g k, mul-le-mul_right (A * B) h, ltb→lt (6 * (A * B)) (2 ^ 63) fits)))

  -- one more product
  module _ {z x y : ℤ} (k : ℕ) (h : k < 6) (e : z ≡ dot k p u) (ex : x ≡ p k) (ey : y ≡ u k) where
    pub sum_fits : nat_abs z + nat_abs x * nat_abs y < 2 ^ 63
    sum_fits =
        let r = dot_room p u A B f g k in
        let m : (k + 1) * (A * B) ≤ 6 * (A * B) = mul-le-mul_right (A * B) (omega arith) in
        rw (e, ex, ey) (omega (arith, ltb→lt (6 * (A * B)) (2 ^ 63) fits))

    pub sum_goes_on : {r : ℤ} → r ≡ z +ℤ x *ℤ y → to_z w64 (of_z w64 r) ≡ dot (k + 1) p u
    sum_goes_on i =
        ap (λ v. to_z w64 (of_z w64 v)) (i ∙ ap₂ ◌+ℤ◌ e (ap₂ ◌*ℤ◌ ex ey) ∙ sym (dot-step p u k))
        ∙ reads (k + 1) (omega arith) refl
