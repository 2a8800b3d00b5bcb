-- Tables that rise, as a loop over their places decides them.
use Rattle.std.specs.Prelude.{◌≡◌, Bool, true, false}
use Rattle.std.proofs.Math.Path.{refl, ap, ap₂}
use Rattle.std.proofs.Common.{◌∙◌, le_of_suc-le-suc, add-one, arith}
use Rattle.std.proofs.Math.Bool.{◌&&◌, and-false}
use Prim.Native.Nat.{ℕ, zero, suc, ◌+◌, ◌<◌}
use Rattle.whole.specs.Tab.{tab}
use Rattle.model.specs.Valid.{rises}

module _ {A : Type 0} (before : A → A → Bool) where
  failed : (n : ℕ) (f : ℕ → A) (k : ℕ) → suc k < n → before (f k) (f (suc k)) ≡ false → rises before (tab n f) ≡ false
  unfolding tab rises
  failed zero f k h e = absurd (omega arith)
  failed (suc zero) f k h e = absurd (omega arith)
  failed (suc (suc n)) f zero h e = ap (◌&& rises before (tab (suc n) (λ i. f (suc i)))) e
  failed (suc (suc n)) f (suc k) h e =
      ap (before (f 0) (f 1) &&◌) (failed (suc n) (λ i. f (suc i)) k (le_of_suc-le-suc h) e) ∙ and-false (before (f 0) (f 1))

  pub rises_failed : (n : ℕ) (f : ℕ → A) (k : ℕ) → k + 1 < n → before (f k) (f (k + 1)) ≡ false → rises before (tab n f) ≡ false
  rises_failed n f k h e = failed n f k (rw add-one at h) (rw add-one at e)

  passed : (n : ℕ) (f : ℕ → A) → ((k : ℕ) → suc k < n → before (f k) (f (suc k)) ≡ true) → rises before (tab n f) ≡ true
  unfolding tab rises
  passed zero f h = refl
  passed (suc zero) f h = refl
  passed (suc (suc n)) f h = ap₂ ◌&&◌ (h 0 (omega arith)) (passed (suc n) (λ i. f (suc i)) (λ k l. h (suc k) (omega arith)))

  pub rises-passed : (n : ℕ) (f : ℕ → A) → ((k : ℕ) → k + 1 < n → before (f k) (f (k + 1)) ≡ true) → rises before (tab n f) ≡ true
  rises-passed n f h = passed n f (λ k l. rw add-one at (h k (omega arith)))

  -- an order of what g gives of the entries
  pub rises_of : {B : Type 0} (g : B → A) (n : ℕ) (f : ℕ → B)
      → rises (λ a b. before (g a) (g b)) (tab n f) ≡ rises before (tab n (λ k. g (f k)))
  unfolding tab rises
  rises_of g zero f = refl
  rises_of g (suc zero) f = refl
  rises_of g (suc (suc n)) f = ap (before (g (f 0)) (g (f 1)) &&◌) (rises_of g (suc n) (λ i. f (suc i)))
