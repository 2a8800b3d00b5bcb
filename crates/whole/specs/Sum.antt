-- Sums in any commutative monoid: `sum_ℕ` and `sum_ℤ` over a list, `upto_ℕ` and `upto_ℤ` over the places 0 .. n - 1.
use Rattle.std.specs.Prelude.{◌≡◌, ℤ, pos, nat_abs, ◌+ℤ◌, ◌*ℤ◌}
use Rattle.std.proofs.Math.Path.{refl, sym, ap, ap₂}
use Rattle.std.proofs.Common.{◌∙◌, arith}
use mathlib.Core.List.{List, [], ◌∷◌, ◌++◌, map}
use Prim.Native.Nat.{ℕ, zero, suc, ◌+◌, ◌*◌, ◌≤◌, ◌<◌}
use Rattle.std.proofs.Math.Numerals.{add-one}
use Rattle.whole.specs.AsNaturals.{as_ℕ}
use Rattle.whole.specs.Size.{abs_add}

-- zero and a sum that is associative and commutative
pub record Monoid (M : Type 0) (zeroM : M) (add : M → M → M) : Type 0 where
  pub zero-add : (a : M) → add zeroM a ≡ a
  pub comm : (a b : M) → add a b ≡ add b a
  pub assoc : (a b c : M) → add (add a b) c ≡ add a (add b c)

pub monoid_ℕ : Monoid ℕ 0 ◌+◌
monoid_ℕ = record { zero-add = λ a. omega arith; comm = λ a b. omega arith; assoc = λ a b c. omega arith }

pub monoid_ℤ : Monoid ℤ (pos 0) ◌+ℤ◌
monoid_ℤ = record {
  zero-add = λ a. simp as_ℕ (omega arith);
  comm = λ a b. simp as_ℕ (omega arith);
  assoc =
      λ a b c. simp as_ℕ (omega arith);
}

-- f a + f b + .. over a list, from the left end on
unfoldable pub sum_by : {M A : Type 0} → M → (M → M → M) → (A → M) → List A → M
sum_by z add f [] = z
sum_by z add f (a ∷ l) = add (f a) (sum_by z add f l)

-- f 0 + f 1 + .. + f (n - 1), grown at its end, as a loop does
unfoldable pub upto_by : {M : Type 0} → M → (M → M → M) → (ℕ → M) → ℕ → M
upto_by z add f zero = z
upto_by z add f (suc n) = add (upto_by z add f n) (f n)

abbrev pub sum_ℕ : {A : Type 0} → (A → ℕ) → List A → ℕ
sum_ℕ f l = sum_by 0 ◌+◌ f l

abbrev pub sum_ℤ : {A : Type 0} → (A → ℤ) → List A → ℤ
sum_ℤ f l = sum_by (pos 0) ◌+ℤ◌ f l

abbrev pub upto_ℕ : (ℕ → ℕ) → ℕ → ℕ
upto_ℕ f n = upto_by 0 ◌+◌ f n

abbrev pub upto_ℤ : (ℕ → ℤ) → ℕ → ℤ
upto_ℤ f n = upto_by (pos 0) ◌+ℤ◌ f n

-- ---- laws of both, in any monoid
module _ {M : Type 0} {z : M} {add : M → M → M} (L : Monoid M z add) where
  swap : (a b c d : M) → add (add a b) (add c d) ≡ add (add a c) (add b d)
  swap a b c d =
      L.assoc a b (add c d)
      ∙ ap (add a) (sym (L.assoc b c d) ∙ ap (λ x. add x d) (L.comm b c) ∙ L.assoc c b d)
      ∙ sym (L.assoc a c (add b d))

  pub sum-++ : {A : Type 0} (f : A → M) (k l : List A) → sum_by z add f (k ++ l) ≡ add (sum_by z add f k) (sum_by z add f l)
  unfolding sum_by
  sum-++ f [] l = sym (L.zero-add (sum_by z add f l))
  sum-++ f (a ∷ k) l = ap (add (f a)) (sum-++ f k l) ∙ sym (L.assoc (f a) (sum_by z add f k) (sum_by z add f l))

  pub sum-add : {A : Type 0} (f g : A → M) (l : List A) → sum_by z add (λ a. add (f a) (g a)) l ≡ add (sum_by z add f l) (sum_by z add g l)
  unfolding sum_by
  sum-add f g [] = sym (L.zero-add z)
  sum-add f g (a ∷ l) = ap (add (add (f a) (g a))) (sum-add f g l) ∙ swap (f a) (g a) (sum_by z add f l) (sum_by z add g l)

  pub upto_add : (f g : ℕ → M) (n : ℕ) → upto_by z add (λ i. add (f i) (g i)) n ≡ add (upto_by z add f n) (upto_by z add g n)
  unfolding upto_by
  upto_add f g zero = sym (L.zero-add z)
  upto_add f g (suc n) = ap (λ x. add x (add (f n) (g n))) (upto_add f g n) ∙ swap (upto_by z add f n) (upto_by z add g n) (f n) (g n)

  -- the two orders of a double sum
  pub upto_swap : (f : ℕ → ℕ → M) (m n : ℕ) → upto_by z add (λ i. upto_by z add (f i) n) m ≡ upto_by z add (λ j. upto_by z add (λ i. f i j) m) n
  unfolding upto_by
  upto_swap f m zero = zeros m
    where
      zeros : (m : ℕ) → upto_by z add (λ i. upto_by z add (f i) zero) m ≡ z
      zeros zero = refl
      zeros (suc m) = ap (λ x. add x z) (zeros m) ∙ L.zero-add z
  upto_swap f m (suc n) =
      upto_add (λ i. upto_by z add (f i) n) (λ i. f i n) m ∙ ap (λ x. add x (upto_by z add (λ i. f i n) m)) (upto_swap f m n)

module _ {M : Type 0} (z : M) (add : M → M → M) where
  pub upto_suc : (f : ℕ → M) (n : ℕ) → upto_by z add f (n + 1) ≡ add (upto_by z add f n) (f n)
  unfolding upto_by
  upto_suc f n = rw add-one

  pub upto_cong : (f g : ℕ → M) (n : ℕ) → ((i : ℕ) → i < n → f i ≡ g i) → upto_by z add f n ≡ upto_by z add g n
  unfolding upto_by
  upto_cong f g zero h = refl
  upto_cong f g (suc n) h = ap₂ add (upto_cong f g n (λ i l. h i (omega arith))) (h n (omega arith))

  pub sum-map : {A B : Type 0} (f : B → M) (g : A → B) (l : List A) → sum_by z add f (map g l) ≡ sum_by z add (λ a. f (g a)) l
  unfolding sum_by
  sum-map f g [] = refl
  sum-map f g (a ∷ l) = ap (add (f (g a))) (sum-map f g l)

-- ---- sizes
pub sum_abs : {A : Type 0} (f : A → ℤ) (l : List A) → nat_abs (sum_ℤ f l) ≤ sum_ℕ (λ a. nat_abs (f a)) l
unfolding sum_by
sum_abs f [] = omega arith
sum_abs f (a ∷ l) = omega (arith, abs_add (f a) (sum_ℤ f l), sum_abs f l)

pub upto_abs : (f : ℕ → ℤ) (n : ℕ) → nat_abs (upto_ℤ f n) ≤ upto_ℕ (λ i. nat_abs (f i)) n
unfolding upto_by
upto_abs f zero = omega arith
upto_abs f (suc n) = omega (arith, abs_add (upto_ℤ f n) (f n), upto_abs f n)

pub upto_mono : (f g : ℕ → ℕ) (n : ℕ) → ((i : ℕ) → i < n → f i ≤ g i) → upto_ℕ f n ≤ upto_ℕ g n
unfolding upto_by
upto_mono f g zero h = omega arith
upto_mono f g (suc n) h = omega (arith, upto_mono f g n (λ i l. h i (omega arith)), h n (omega arith))

pub upto_bound : (f : ℕ → ℕ) (B n : ℕ) → ((i : ℕ) → i < n → f i ≤ B) → upto_ℕ f n ≤ n * B
unfolding upto_by
upto_bound f B zero h = omega arith
upto_bound f B (suc n) h = omega (arith, upto_bound f B n (λ i l. h i (omega arith)), h n (omega arith))

-- ---- multiples
pub sum-scale : {A : Type 0} (c : ℤ) (f : A → ℤ) (l : List A) → sum_ℤ (λ a. c *ℤ f a) l ≡ c *ℤ sum_ℤ f l
unfolding sum_by
sum-scale c f [] = simp as_ℕ (omega arith)
sum-scale c f (a ∷ l) = rw (sum-scale c f l) (simp as_ℕ (omega arith))

pub upto_scale : (c : ℤ) (f : ℕ → ℤ) (n : ℕ) → upto_ℤ (λ i. c *ℤ f i) n ≡ c *ℤ upto_ℤ f n
unfolding upto_by
upto_scale c f zero = simp as_ℕ (omega arith)
upto_scale c f (suc n) = rw (upto_scale c f n) (simp as_ℕ (omega arith))
