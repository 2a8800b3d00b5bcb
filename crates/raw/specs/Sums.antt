-- Sums over tables, and parts of a sum of naturals.
use Rattle.std.specs.Prelude.{◌≡◌}
use Rattle.std.proofs.Math.Path.{refl, sym, ap}
use Rattle.std.proofs.Common.{◌∙◌, arith}
use Prim.Native.Nat.{ℕ, zero, suc, ◌+◌, ◌<◌, ◌≤◌}
use Rattle.std.proofs.Math.Decide.{dec_lt}
use Rattle.whole.specs.Sum.{Monoid, sum_by, upto_by, upto_ℕ}
use Rattle.whole.specs.Tab.{tab}

module _ {M : Type 0} {z : M} {add : M → M → M} (L : Monoid M z add) where
  -- the first one apart
  upto_front : (f : ℕ → M) (n : ℕ) → upto_by z add f (suc n) ≡ add (f 0) (upto_by z add (λ i. f (suc i)) n)
  unfolding upto_by
  upto_front f zero = L.comm z (f 0)
  upto_front f (suc n) = ap (λ (x : M). add x (f (suc n))) (upto_front f n) ∙ L.assoc (f 0) (upto_by z add (λ i. f (suc i)) n) (f (suc n))

  pub sum-tab : {A : Type 0} (f : A → M) (n : ℕ) (g : ℕ → A) → sum_by z add f (tab n g) ≡ upto_by z add (λ i. f (g i)) n
  unfolding sum_by tab upto_by
  sum-tab f zero g = refl
  sum-tab f (suc n) g = ap (add (f (g 0))) (sum-tab f n (λ i. g (suc i))) ∙ sym (upto_front (λ i. f (g i)) n)

-- each summand is at most the sum
pub upto_has : (f : ℕ → ℕ) (n i : ℕ) → i < n → f i ≤ upto_ℕ f n
unfolding upto_by
upto_has f zero i h = absurd (omega arith)
upto_has f (suc n) i h = go (upto_has f n i) (dec_lt i n)
  where
    go : (i < n → f i ≤ upto_ℕ f n) → Dec (i < n) → f i ≤ upto_ℕ f n + f n
    go ih (yes p) = omega (arith, ih p)
    go ih (no p) = let e : i ≡ n = omega arith in rw e (omega arith)
