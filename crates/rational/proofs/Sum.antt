-- The laws of sums over lists and of `All`: what holds of each element holds of the sum.
use Rattle.std.specs.Prelude.{◌≡◌}
use Rattle.std.proofs.Math.Path.{refl, sym, ap, fun_ext}
use Rattle.std.proofs.Common.{◌∙◌}
use mathlib.Core.List.{List, [], ◌∷◌, ◌++◌, map}
use Rattle.rational.specs.Rational.{ℚ, ◌+ℚ◌, ◌*ℚ◌, 0ℚ}
use Rattle.rational.proofs.Ring.{ring, +ℚ-assoc, +ℚ-zero, zero-+ℚ, *ℚ-zero, *ℚ-+ℚ}
use Rattle.rational.specs.Bounds.{Within}
use Rattle.rational.proofs.Bounds.{within-+, within-zero}
use Rattle.rational.specs.Near.{Near}
use Rattle.rational.proofs.Near.{near-+, near_refl}
use Rattle.rational.specs.Sum.{sum, All, none, more}

-- ---- equations

module _ {A : Type 0} where
  pub sum-++ : (f : A → ℚ) (k l : List A) → sum f (k ++ l) ≡ sum f k +ℚ sum f l
  unfolding sum
  sum-++ f [] l = sym (zero-+ℚ (sum f l))
  sum-++ f (a ∷ k) l = ap (f a +ℚ◌) (sum-++ f k l) ∙ sym (+ℚ-assoc (f a) (sum f k) (sum f l))

  pub sum-+ : (f g : A → ℚ) (l : List A) → sum (λ a. f a +ℚ g a) l ≡ sum f l +ℚ sum g l
  unfolding sum
  sum-+ f g [] = sym (+ℚ-zero 0ℚ)
  sum-+ f g (a ∷ l) = ap ((f a +ℚ g a) +ℚ◌) (sum-+ f g l) ∙ simp ring

  pub sum-* : (c : ℚ) (f : A → ℚ) (l : List A) → sum (λ a. c *ℚ f a) l ≡ c *ℚ sum f l
  unfolding sum
  sum-* c f [] = sym (*ℚ-zero c)
  sum-* c f (a ∷ l) = ap ((c *ℚ f a) +ℚ◌) (sum-* c f l) ∙ sym (*ℚ-+ℚ c (f a) (sum f l))

  pub sum_cong : (f g : A → ℚ) (l : List A) → ((a : A) → f a ≡ g a) → sum f l ≡ sum g l
  sum_cong f g l h = ap (λ k. sum k l) (fun_ext h)

  pub sum_cong_all : {f g : A → ℚ} {l : List A} → All (λ a. f a ≡ g a) l → sum f l ≡ sum g l
  unfolding sum
  sum_cong_all none = refl
  sum_cong_all {f} {g} (more {a = a} {l = l} h t) = ap (◌+ℚ sum f l) h ∙ ap (g a +ℚ◌) (sum_cong_all t)

pub sum-map : {A B : Type 0} (f : B → ℚ) (g : A → B) (l : List A) → sum f (map g l) ≡ sum (λ a. f (g a)) l
unfolding sum
sum-map f g [] = refl
sum-map f g (a ∷ l) = ap (f (g a) +ℚ◌) (sum-map f g l)

-- The two orders of a double sum.
pub sum-swap : {A B : Type 0} (f : A → B → ℚ) (k : List A) (l : List B)
    → sum (λ a. sum (f a) l) k ≡ sum (λ b. sum (λ a. f a b) k) l
unfolding sum
sum-swap f [] [] = refl
sum-swap f [] (b ∷ l) = sum-swap f [] l ∙ sym (zero-+ℚ (sum (λ b. sum (λ a. f a b) []) l))
sum-swap f (a ∷ k) l = ap (sum (f a) l +ℚ◌) (sum-swap f k l) ∙ sym (sum-+ (f a) (λ b. sum (λ a. f a b) k) l)

-- ---- bounds

module _ {A : Type 0} where
  pub sum-within : {f r : A → ℚ} {l : List A} → All (λ a. Within (f a) (r a)) l → Within (sum f l) (sum r l)
  unfolding sum
  sum-within none = within-zero
  sum-within (more h t) = within-+ h (sum-within t)

  pub sum_near : {f g r : A → ℚ} {l : List A} → All (λ a. Near (f a) (g a) (r a)) l → Near (sum f l) (sum g l) (sum r l)
  unfolding sum
  sum_near none = near_refl 0ℚ
  sum_near (more h t) = near-+ h (sum_near t)

  -- ---- what holds of every element

  pub All-++ : {P : A → Type 0} {k l : List A} → All P k → All P l → All P (k ++ l)
  All-++ none q = q
  All-++ (more h t) q = more h (All-++ t q)

  pub All-imp : {P Q : A → Type 0} {l : List A} → ((a : A) → P a → Q a) → All P l → All Q l
  All-imp f none = none
  All-imp f (more {a = a} h t) = more (f a h) (All-imp f t)

pub All-map : {A B : Type 0} {P : B → Type 0} (g : A → B) {l : List A} → All (λ a. P (g a)) l → All P (map g l)
All-map g none = none
All-map g (more h t) = more h (All-map g t)
